use Rattle.std.proofs.Common.{◌≡◌, drop}
use Rattle.sb_check.specs.Names.{column_in, column_from}
use Rattle.sb_check.proofs.scope.column_in.Given as goal

-- the search goes on with the columns that are left
abbrev pub invariant-loop-place : goal.invariant-loop-place
invariant-loop-place l = column_in l.columns l.name ≡ column_from l.place (drop l.place l.columns) l.name
