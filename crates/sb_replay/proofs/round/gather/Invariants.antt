use Rattle.std.proofs.Common.{◌≡◌, ◌++◌, List, length}
use Rattle.std.specs.Vec.Iter.{into_iter_items}
use Rattle.sb_replay.specs.Parts.{Gathers, calls}
use Rattle.sb_replay.proofs.Lists.{Cuts}
use Rattle.sb_replay.proofs.round.gather.Given as goal

-- what was answered so far is used, and there is an answer for each part that waits for one
abbrev pub invariant-loop-part : goal.invariant-loop-part
invariant-loop-part g l =
    (used : List _) × (used ++ into_iter_items l.answered ≡ l.fn.done.items)
    × Cuts Gathers l.fn.waiting.items (into_iter_items l.part-iterator) l.parts.items used
    × (calls (into_iter_items l.part-iterator) ≡ length (into_iter_items l.answered))
