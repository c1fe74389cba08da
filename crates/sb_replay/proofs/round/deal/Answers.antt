use Rattle.std.proofs.Common.{sym, ◌∙◌}
use Rattle.std.specs.Vec.Iter.{into_iter_items}
use Rattle.std.proofs.lemmas.List.{nil_from_length}
use Rattle.sb_replay.specs.Parts.{Deals}
use Rattle.sb_replay.proofs.Lists.{cuts_end, cuts_on}
use Rattle.sb_replay.proofs.round.deal.Goals as goal

pub loop-part-preserved : goal.loop-part-preserved
loop-part-preserved g c =
    let at = c.loop-part in
    let one = c.in_ok-deal_one.ensures in
    cuts_on Deals c.args.parts.items (into_iter_items at.part-iterator) (into_iter_items c.next.new.self) c.in-Some.part at.waiting.items c.deal_one.new.waiting.items one.0 at.jobs.items c.deal_one.new.jobs.items one.1
    c.in-Some.ensures.steps.0 one.2 one.3 one.4 at.invariant

pub returns : goal.returns
returns g c =
    let at = c.loop-part in
    cuts_end Deals c.args.parts.items (into_iter_items at.part-iterator) at.waiting.items at.jobs.items (nil_from_length _ (sym at.part-iterator.rest.ok.0 ∙ c.in-None.ensures.steps.0)) at.invariant
