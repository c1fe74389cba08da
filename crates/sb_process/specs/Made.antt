-- Machine: the tables in memory of a tenant, against those that a transaction began with.
use Rattle.std.specs.Prelude.{◌≡◌, ℕ, ◌<◌, ◌==◌, if◌then◌else◌, List, [], ◌∷◌, map, IsFalse}
use Rattle.sb_value.specs.declared.change.Change.{Change}
use Rattle.sb_value.specs.Table.{Entry, IsProper}
use Rattle.sb_tables.specs.Stored.{IsStored}
use Rattle.sb_tables.specs.Undo.{stored_after}
use Rattle.sb_tables.specs.Held.{Held, has_number, entries}

-- no two tables have one number
abbrev pub AreNumbered : List Held → Type 0
AreNumbered [] = Unit {0}
AreNumbered (h ∷ tables) = IsFalse (has_number tables h.id) × AreNumbered tables

-- each table is sound
abbrev pub AreStored : List Held → Type 0
AreStored [] = Unit {0}
AreStored (h ∷ tables) = IsStored h.stored × AreStored tables

-- a table after a change, if the change is of it
abbrev pub held_after : Change → Held → Held
held_after c h = if h.id == c.table then record h { stored = stored_after c h.stored } else h

-- the tables after a change, and after a list of changes
abbrev pub tables_after : Change → List Held → List Held
tables_after c tables = map (held_after c) tables

abbrev pub tables_after_all : List Change → List Held → List Held
tables_after_all [] tables = tables
tables_after_all (c ∷ cs) tables = tables_after_all cs (tables_after c tables)

-- a table, whatever room it has
abbrev pub without_room : Held → Held
without_room h = record h { stored = record h.stored { room = 0 } }

-- the tables are those of the beginning, which were sound, with the changes made one after another
pub record AreMade (origin : List Held) (changes : List Change) (tables : List Held) : Type 0 where
  pub numbered : AreNumbered origin
  pub stored : AreStored origin
  pub proper : IsProper (entries origin) changes
  pub made : map without_room tables ≡ map without_room (tables_after_all changes origin)

-- each table's next number is below n
abbrev pub EachBelow : ℕ → List Entry → Type 0
EachBelow n [] = Unit {0}
EachBelow n (e ∷ tables) = (e.table.next < n) × EachBelow n tables

abbrev pub NumbersBelow : ℕ → List Held → Type 0
NumbersBelow n tables = EachBelow n (entries tables)
