use Rattle.std.proofs.Common.{◌≡◌, drop}
use Rattle.sb_value.specs.Table.{has_table}
use Rattle.sb_tables.specs.Held.{entries}
use Rattle.sb_tenant.proofs.alike.same_tables.has_number_from.Given as goal

-- no table up to here has the number
abbrev pub invariant-loop-place : goal.invariant-loop-place
invariant-loop-place l = has_table (drop l.start (entries l.tables)) l.id ≡ has_table (drop l.place (entries l.tables)) l.id
