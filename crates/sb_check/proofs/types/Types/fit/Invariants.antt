use Rattle.std.proofs.Common.{◌≡◌, drop, map}
use Rattle.sb_check.specs.Walk.{of_types}
use Rattle.sb_check.proofs.types.Types.fit.Given as goal

-- the columns that are left decide
abbrev pub invariant-loop-place : goal.invariant-loop-place
invariant-loop-place l = of_types (map (λ c. c.of) l.list) l.columns ≡ of_types (map (λ c. c.of) (drop l.place l.list)) (drop l.place l.columns)
