use Rattle.std.proofs.Common.{◌≡◌, map, take}
use Rattle.sb_value.specs.Columns.{set_of}
use Rattle.sb_eval.proofs.change.places.Given as goal

-- the places so far are in the set
abbrev pub invariant-loop-assignment : goal.invariant-loop-assignment
invariant-loop-assignment l = l.columns ≡ set_of (map (λ a. a.place) (take l.assignment-index l.assignments))
