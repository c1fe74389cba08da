use Rattle.std.proofs.Common.{◌≡◌, drop, map}
use Rattle.sb_check.specs.Walk.{of_types, type_of}
use Rattle.sb_check.proofs.statement.row_types.Given as goal

-- the values that are left decide
abbrev pub invariant-loop-place : goal.invariant-loop-place
invariant-loop-place l = of_types (map type_of l.values) l.columns ≡ of_types (map type_of (drop l.place l.values)) (drop l.place l.columns)
