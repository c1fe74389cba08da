use Rattle.std.specs.Vec.Iter.{into_iter_items}
use Rattle.sb_replay.specs.Parts.{Closes}
use Rattle.sb_replay.proofs.Lists.{Cuts}
use Rattle.sb_replay.proofs.closing.close_all.Given as goal

abbrev pub invariant-loop-part : goal.invariant-loop-part
invariant-loop-part g l = Cuts Closes l.fn.parts.items (into_iter_items l.part-iterator) l.sheets.items l.stubs.items
