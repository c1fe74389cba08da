use Rattle.std.proofs.Common.{◌≡◌, map, length}
use Rattle.sb_value.specs.Table.{values}
use Rattle.sb_tenant.proofs.alike.same_tables.same_rows.Given as goal

-- where the rows that are left have the same values, all have
abbrev pub invariant-rows : goal.invariant-rows
invariant-rows l = map (λ r. r.1) l.rows ≡ map (λ r. r.1) l.others → values l.one.table ≡ values l.other.table

abbrev pub decreases-rows : goal.decreases-rows
decreases-rows l = length l.rows
