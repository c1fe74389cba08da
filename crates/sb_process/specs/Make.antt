-- Machine: making one change of a table in memory.
use Rattle.std.specs.Prelude.{◌≡◌, ℕ, ◌-◌, ◌^◌, ◌<◌, List, length}
use Rattle.sb_value.specs.declared.change.Change.{Change}
use Rattle.sb_value.specs.declared.change.ChangeKind.{ChangeKind}
use Rattle.sb_value.specs.declared.change.ChangeKind.TheVariants.{Inserted, Deleted, Updated}
use Rattle.sb_tables.specs.Stored.{Stored}
use Rattle.sb_tables.specs.Held.{Held, stored_at, with_stored}
use Rattle.sb_tables.specs.Undo.{stored_after}

-- an insert needs a place, a number and a table that isn't full
abbrev pub HasPlaceFor : ChangeKind → Stored → Type 0
HasPlaceFor Inserted s = (0 < s.room) × (s.table.next < 2 ^ 64 - 1) × (length s.table.rows < 4096)
HasPlaceFor Deleted s = Unit {0}
HasPlaceFor Updated s = Unit {0}

-- an insert takes a place
abbrev pub room_after : ChangeKind → ℕ → ℕ
room_after Inserted room = room - 1
room_after Deleted room = room
room_after Updated room = room

-- the tables are those with the change made
abbrev pub Makes : Change → List Held → List Held → Type 0
Makes c old new = new ≡ with_stored c.table (record (stored_after c (stored_at old c.table)) { room = room_after c.kind (stored_at old c.table).room }) old
