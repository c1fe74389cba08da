use Rattle.std.proofs.Common.{◌≡◌}
use Rattle.sb_cell.proofs.cell.limit_each.Given as goal

-- no tenant is another one
abbrev pub invariant-loop-place : goal.invariant-loop-place
invariant-loop-place l = l.tenants.items ≡ l.fn.tenants.items
