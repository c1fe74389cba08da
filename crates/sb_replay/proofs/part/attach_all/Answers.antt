use Rattle.std.proofs.Common.{length, sym, ap, ◌∙◌, arith}
use Rattle.std.specs.Vec.Iter.{into_iter_items}
use Rattle.std.proofs.lemmas.List.{length_push, nil_from_length}
use Rattle.sb_replay.specs.Parts.{Opens}
use Rattle.sb_replay.proofs.Lists.{fills_end, fills_on}
use Rattle.sb_replay.proofs.part.attach_all.Goals as goal

pub attach-requires : goal.attach-requires
attach-requires g c =
    let count = c.loop-commands.invariant.count in
    let split = ap length c.in-Some.ensures.steps.0 in
    omega arith

pub loop-commands-preserved : goal.loop-commands-preserved
loop-commands-preserved g c =
    let at = c.loop-commands in
    let one = c.in_ok-attach.ensures.ok in
    record {
      fills = fills_on Opens c.args.rows.items (into_iter_items at.commands-iterator) (into_iter_items c.next.new.self) c.in-Some.commands at.parts.items c.attach.new.parts.items one.0
          c.in-Some.ensures.steps.0 one.1 one.2 at.invariant.fills;
      count =
          let count = at.invariant.count in
          let split = ap length c.in-Some.ensures.steps.0 in
          let more = ap length one.1 ∙ length_push at.parts.items one.0 in
          omega arith;
    }

pub returns-clause-ok : goal.returns-clause-ok
returns-clause-ok g c =
    let at = c.loop-commands in
    fills_end Opens c.args.rows.items (into_iter_items at.commands-iterator) at.parts.items (nil_from_length _ (sym at.commands-iterator.rest.ok.0 ∙ c.in-None.ensures.steps.0)) at.invariant.fills
