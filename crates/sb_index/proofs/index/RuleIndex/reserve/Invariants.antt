use Rattle.std.proofs.Common.{◌≡◌, ℕ, ◌+◌, ◌-◌, [], get_or, length}
use Rattle.sb_index.proofs.index.RuleIndex.reserve.Given as goal

abbrev pub invariant-loop-tenant : goal.invariant-loop-tenant
invariant-loop-tenant l = (n : ℕ) → get_or l.self-inside.tenants.items n [] ≡ get_or l.initial.self-inside.tenants.items n []

abbrev pub decreases-loop-tenant : goal.decreases-loop-tenant
decreases-loop-tenant l = (l.tenant + 1) - length l.self-inside.tenants.items
