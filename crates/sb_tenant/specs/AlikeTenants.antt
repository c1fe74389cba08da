-- Promise: tenants that are alike at any time: but for the numbers of their tuples their states are the same.
use Rattle.std.specs.Prelude.{◌≡◌, ℕ, ◌+◌, ◌<◌, Bool, false, List, map, IsTrue, All}
use Rattle.std.specs.List.{list_any}
use Rattle.sb_value.specs.declared.change.Change.{Change}
use Rattle.sb_value.specs.declared.lock.LockMode.{LockMode}
use Rattle.sb_value.specs.Locks.{sessions}
use Rattle.sb_value.specs.Table.{Table, Entry, has_table}
use Rattle.sb_tenant.specs.Alike.{HaveSamePairs}
use Rattle.sb_tenant.specs.Limits.{is_session}
use Rattle.sb_tenant.specs.State.{State, Catalog, Session, closed, idle, active, session_at, has_transaction}

-- whether a session has a transaction
abbrev pub is_busy : State → Bool
is_busy state = list_any (λ s. has_transaction (session_at state s)) sessions

-- for each table and each of its tuples another number
abbrev pub Numbering : Type 0
Numbering = ℕ → ℕ → ℕ

abbrev pub renumbered_table : (ℕ → ℕ) → Table → Table
renumbered_table number table =
    record table { rows = map (λ r. (number r.0, r.1)) table.rows; next = number table.next }

abbrev pub renumbered_entry : Numbering → Entry → Entry
renumbered_entry numbering e = record e { table = renumbered_table (numbering e.id) e.table }

-- a change, made by the tenant of that number
abbrev pub renumbered_change : ℕ → Numbering → Change → Change
renumbered_change tenant numbering c = record c { tenant = tenant; tuple = numbering c.table c.tuple }

-- the numbering keeps the order, new tuples of a table are numbered one after another, and a table that isn't there has
-- its numbers as they are
pub record IsNumbering (numbering : Numbering) (tables : List Entry) : Type 0 where
  pub rising : (table a b : ℕ) → a < b → numbering table a < numbering table b
  pub steady : All (λ e. (k : ℕ) → numbering e.id (e.table.next + k) ≡ numbering e.id e.table.next + k) tables
  pub elsewhere : (table k : ℕ) → has_table tables table ≡ false → numbering table k ≡ k

-- the sessions are as far, with the same changes but for the numbers
abbrev pub IsRenumberedSession : ℕ → Numbering → Session → Session → Type 0
IsRenumberedSession tenant numbering closed other = other ≡ closed
IsRenumberedSession tenant numbering idle other = other ≡ idle
IsRenumberedSession tenant numbering (active changes marks) closed = ⊥
IsRenumberedSession tenant numbering (active changes marks) idle = ⊥
IsRenumberedSession tenant numbering (active changes marks) (active renumbered same) =
    (renumbered ≡ map (renumbered_change tenant numbering) changes) × ((rule : ℕ) → same rule ≡ marks rule)

-- the catalog is the other one with its tuples numbered so
pub record IsRenumberedCatalog (numbering : Numbering) (one other : Catalog) : Type 0 where
  pub numbering_is : IsNumbering numbering one.tables
  pub tables : other.tables ≡ map (renumbered_entry numbering) one.tables
  pub rules : other.rules ≡ one.rules
  pub rulesets : other.rulesets ≡ one.rulesets
  pub pairs : HaveSamePairs other.pairs one.pairs

-- the state is the other one with its tuples numbered so, of the tenant of that number
pub record IsRenumbered (tenant : ℕ) (numbering : Numbering) (one other : State) : Type 0 where
  pub catalog : IsRenumberedCatalog numbering one.catalog other.catalog
  pub locks : (s table : ℕ) (mode : LockMode) → other.locks s table mode ≡ one.locks s table mode
  pub sessions :
      (s : ℕ) → IsTrue (is_session s) → IsRenumberedSession tenant numbering (session_at one s) (session_at other s)

-- the states of two tenants are alike: both are one state, each with numbers of its own
pub record AreAlike (first second : ℕ) (one other : State) : Type 0 where
  pub state : State
  pub first_numbering : Numbering
  pub second_numbering : Numbering
  pub first_is : IsRenumbered first first_numbering state one
  pub second_is : IsRenumbered second second_numbering state other
