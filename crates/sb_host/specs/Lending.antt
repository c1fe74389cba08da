-- Promise: which tenant a reader is lent.
use Rattle.std.specs.Prelude.{ℕ, ◌≡◌}
use Rattle.sb_tenant.specs.Tenant.{Tenant}

-- a tenant of this number, of which the reader has noted this
abbrev pub Lends : {V : Type 0} → (Tenant → V → Type 0) → ℕ → V → Type 0
Lends reads t new = (own : Tenant) × (own.id ≡ t) × reads own new
