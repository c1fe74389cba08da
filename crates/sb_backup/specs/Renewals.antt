-- Promise: a tenant is renewed by a copy of itself.
use Rattle.std.specs.Prelude.{◌≡◌, ℕ, List, Option, Some, None}
use Rattle.sb_tenant.specs.declared.bound.Bound.{Bound}
use Rattle.sb_tenant.specs.Tenant.{Tenant}
use Rattle.sb_desk.specs.declared.stub.Stub.{Stub}
use Rattle.sb_host.specs.Renewal.{IsRenewed}
use Rattle.sb_backup.specs.declared.renewal.Draft.{Draft}

-- A tenant of that number was renewed: these stubs had exactly the receipts of the trail that has ended, and these those of the opening of the next one.
abbrev pub Renewed : ℕ → List Stub → List Stub → Type 0
Renewed t stubs opening = (bound : Bound) × (old fresh : Tenant) × (fresh.id ≡ t) × IsRenewed bound stubs fresh old opening

-- the draft is of the tenant of that number
abbrev pub IsDraftOf : Tenant → Option Draft → Type 0
IsDraftOf own None = ⊥
IsDraftOf own (Some draft) = draft.id ≡ own.id
