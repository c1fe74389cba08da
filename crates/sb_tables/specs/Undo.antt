-- Machine: undoing the newest change of a table.
use Rattle.std.specs.Prelude.{◌≡◌, ℕ, ◌+◌, List, [], ◌∷◌, ◌++◌}
use Rattle.sb_value.specs.Table.{Table, IsTable, fits_kind, after_change}
use Rattle.sb_tables.specs.Held.{Held, stored_at, with_stored}
use Rattle.sb_tables.specs.Stored.{Stored}
use Rattle.sb_value.specs.declared.change.Change.{Change}
use Rattle.sb_value.specs.declared.change.ChangeKind.{ChangeKind}
use Rattle.sb_value.specs.declared.change.ChangeKind.TheVariants.{Inserted, Deleted, Updated}

-- the change can be made of the table before, and makes it the table now
pub record IsBefore (c : Change) (now before : Table) : Type 0 where
  pub is_table : IsTable before
  pub fits : fits_kind c.kind c before
  pub made : after_change c before ≡ now

-- the change is the newest of the table
abbrev pub IsNewest : Change → Table → Type 0
IsNewest c now = (before : Table) × IsBefore c now before

-- the numbers that have a place, after a change
abbrev pub places_after : ChangeKind → ℕ → List ℕ → List ℕ
places_after Inserted tuple places = places ++ tuple ∷ []
places_after Deleted tuple places = places
places_after Updated tuple places = places

-- an insert that is undone leaves its room
abbrev pub room_before : ChangeKind → ℕ → ℕ
room_before Inserted room = room + 1
room_before Deleted room = room
room_before Updated room = room

-- a stored table after a change
abbrev pub stored_after : Change → Stored → Stored
stored_after c s = record { table = after_change c s.table; places = places_after c.kind c.tuple s.places; room = s.room }

-- what is stored once the change is undone, which was the newest of the table
pub record Undoes (c : Change) (now before : Stored) : Type 0 where
  pub table : (one : Table) → IsBefore c now.table one → before.table ≡ one
  pub places : now.places ≡ places_after c.kind c.tuple before.places
  pub room : before.room ≡ room_before c.kind now.room

-- the tables once a change is undone, which was the newest of its table
abbrev pub AreUndone : Change → List Held → List Held → Type 0
AreUndone c now before = (stored : Stored) × Undoes c (stored_at now c.table) stored × (before ≡ with_stored c.table stored now)
