-- Machine: what the log and the index of a cell hold.
use Rattle.std.specs.Prelude.{◌≡◌, ℕ, if◌then◌else◌, List, [], Some}
use Rattle.sb_value.specs.declared.change.Change.{Change}
use Rattle.sb_value.specs.declared.id.Who.{Who}
use Rattle.sb_rawlog.specs.Sessions.{changes_by}
use Rattle.sb_catalog.specs.Definitions.{AreIndexed}
use Rattle.sb_tenant.specs.Limits.{is_session}
use Rattle.sb_tenant.specs.State.{session_at, changes_of}
use Rattle.sb_tenant.specs.Tenant.{Tenant}
use Rattle.sb_tenant.specs.Lending.{InStep}
use Rattle.sb_cell.specs.Tenants.{Cell, tenant_at, states}

-- the changes of someone's open transaction; nobody but the sessions of the cell's tenants has one
abbrev pub transaction_of : Cell → Who → List Change
transaction_of c who = if is_session who.session then changes_of (session_at (states c who.tenant) who.session) else []

-- what the log holds of anyone, in rising time and without the times, is the list of their transaction
abbrev pub HoldsTransactions : Cell → Type 0
HoldsTransactions c = (who : Who) → changes_by who c.records ≡ transaction_of c who

-- the index holds the operations of all active rules of the cell's tenants, and no others
abbrev pub HoldsRules : Cell → Type 0
HoldsRules c = (t : ℕ) → AreIndexed c.index t (states c t).catalog.rules

-- so each tenant is in step with them: a time of the clock stands for each mark of its open transactions
abbrev pub AreInStep : Cell → Type 0
AreInStep c = (t : ℕ) (w : Tenant) → tenant_at c t ≡ Some w → InStep w c.records c.clock c.index
