use Rattle.std.proofs.Common.{sym, ◌∙◌}
use Rattle.std.specs.Vec.Iter.{into_iter_items}
use Rattle.std.proofs.lemmas.List.{nil_from_length}
use Rattle.sb_replay.specs.Parts.{Closes}
use Rattle.sb_replay.proofs.Lists.{cuts_end, cuts_on}
use Rattle.sb_replay.proofs.closing.close_all.Goals as goal

pub loop-part-preserved : goal.loop-part-preserved
loop-part-preserved g c =
    let at = c.loop-part in
    let one = c.in_ok-close_one.ensures.ok in
    cuts_on Closes c.args.parts.items (into_iter_items at.part-iterator) (into_iter_items c.next.new.self) c.in-Some.part at.sheets.items c.close_one.new.sheets.items one.0 at.stubs.items c.close_one.new.stubs.items one.1
    c.in-Some.ensures.steps.0 one.2 one.3 one.4 at.invariant

pub returns-clause-ok : goal.returns-clause-ok
returns-clause-ok g c =
    let at = c.loop-part in
    cuts_end Closes c.args.parts.items (into_iter_items at.part-iterator) at.sheets.items at.stubs.items (nil_from_length _ (sym at.part-iterator.rest.ok.0 ∙ c.in-None.ensures.steps.0)) at.invariant
