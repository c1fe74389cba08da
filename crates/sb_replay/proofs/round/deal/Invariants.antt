use Rattle.std.specs.Vec.Iter.{into_iter_items}
use Rattle.sb_replay.specs.Parts.{Deals}
use Rattle.sb_replay.proofs.Lists.{Cuts}
use Rattle.sb_replay.proofs.round.deal.Given as goal

abbrev pub invariant-loop-part : goal.invariant-loop-part
invariant-loop-part g l = Cuts Deals l.fn.parts.items (into_iter_items l.part-iterator) l.waiting.items l.jobs.items
