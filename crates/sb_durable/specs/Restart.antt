-- Promise: a tenant after a restart, and a journal that tells what the tenants of a cell are.
use Rattle.std.specs.Prelude.{◌≡◌, ℕ, ◌==◌, ◌&&◌, if◌then◌else◌, List, map, filter, filter_map, codes, Option, Some, None, IsTrue, []}
use Rattle.std.specs.List.{AllByRecursion}
use Rattle.sb_tenant.specs.declared.bound.Bound.{Bound}
use Rattle.sb_value.specs.Locks.{sessions}
use Rattle.sqlite_disk.specs.declared.Disk.{Ghosts}
use Rattle.sb_durable.specs.Journal.{Has}
use Rattle.sb_durable.specs.Records.{Entry as Record, IsEntry}
use Rattle.sb_durable.specs.declared.journal_header.Head.{Head}
use Rattle.sb_durable.specs.declared.journal.Journal.{Journal}
use Rattle.sb_tenant.specs.Limits.{is_session}
use Rattle.sb_tenant.specs.State.{State, opening, session_at, is_open}
use Rattle.sb_tenant.specs.Trail.{state_after}
use Rattle.sb_cell.specs.Tenants.{Cell, hosts, states}

-- the session and the line of a tenant's record; a renewal is no line of a session
abbrev pub own_record : ℕ → Record → Option (ℕ × List ℕ)
own_record t r = if (t == r.tenant) && is_session r.session then Some (r.session, r.line) else None

-- those of all its records, in order
abbrev pub own_records : ℕ → List Record → List (ℕ × List ℕ)
own_records t records = filter_map (own_record t) records

-- the `end` of each session that is open
abbrev pub ends : State → List (ℕ × List ℕ)
ends state = map (λ s. (s, codes "end")) (filter (λ s. is_open (session_at state s)) sessions)

module _ (bound : Bound) (t : ℕ) where
  -- the tenant as its records make it, one after another
  abbrev pub made_of : List Record → State
  made_of records = state_after t bound opening (own_records t records)

  -- with no session open any more
  abbrev pub ended : State → State
  ended state = state_after t bound state (ends state)

  -- after a restart
  abbrev pub restarted : List Record → State
  restarted records = ended (made_of records)

-- records that a file can have
abbrev pub AreRecords : List Record → Type 0
AreRecords records = AllByRecursion IsEntry records

-- the records make the state of each tenant of the cell
abbrev pub Remembers : Cell → List Record → Type 0
Remembers cell records = (t : ℕ) → IsTrue (hosts cell t) → made_of cell.bound t records ≡ states cell t

-- each tenant of the cell is as a restart leaves it
abbrev pub IsRestarted : Cell → List Record → Type 0
IsRestarted cell records = (t : ℕ) → IsTrue (hosts cell t) → states cell t ≡ restarted cell.bound t records

-- The journal has records that make the cell's tenants, and all of them are on the disk.
pub record Tells {D : Type 0} {g : Ghosts D} (seen : D → List ℕ) (may_leave : D → List ℕ → Type 0) (journal : Journal D g) (head : Head) (cell : Cell) : Type 0 where
  pub records : List Record
  pub are : AreRecords records
  pub remembers : Remembers cell records
  pub has : Has seen may_leave journal head records []
