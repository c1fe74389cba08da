use Rattle.std.proofs.Common.{◌≡◌, ℕ, ◌+◌, ◌-◌, length}
use Rattle.sb_index.specs.Operation.{Operation}
use Rattle.sb_index.specs.Stands.{in_tenant}
use Rattle.sb_index.proofs.tenant.TenantRules.reserve.Given as goal

abbrev pub invariant-loop-table : goal.invariant-loop-table
invariant-loop-table l = (t : ℕ) (o : Operation) (r : ℕ) → in_tenant l.self-inside.tables.items t o r ≡ in_tenant l.initial.self-inside.tables.items t o r

abbrev pub decreases-loop-table : goal.decreases-loop-table
decreases-loop-table l = (l.table + 1) - length l.self-inside.tables.items
