use Rattle.std.proofs.Common.{◌≡◌, ◌++◌, map, take, drop}
use Rattle.sb_catalog.specs.Places.{closed}
use Rattle.sb_catalog.proofs.places.Places.close.Given as goal

-- the places that were passed are moved up, and the others are as they were
abbrev pub invariant-loop-place : goal.invariant-loop-place
invariant-loop-place l =
    l.place-items ≡ map (closed l.gap) (take l.place-index l.initial.place-items) ++ drop l.place-index l.initial.place-items
