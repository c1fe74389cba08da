-- Machine: tables that several transactions change, each of them by one at most.
use Rattle.std.specs.Prelude.{◌≡◌, ℕ, Bool, ◌==◌, if◌then◌else◌, List, [], ◌∷◌, ◌++◌, map, filter, IsFalse}
use Rattle.sb_value.specs.declared.change.Change.{Change}
use Rattle.sb_value.specs.Table.{after_all}
use Rattle.sb_tables.specs.Held.{Held, entries, has_number, settled}
use Rattle.sb_process.specs.Made.{AreMade, tables_after_all}

-- the changes of one table
abbrev pub changes_to : ℕ → List Change → List Change
changes_to table changes = filter (λ c. c.table == table) changes

-- each table has the same changes in both lists
abbrev pub ChangeTheSame : List Change → List Change → Type 0
ChangeTheSame one other = (table : ℕ) → changes_to table one ≡ changes_to table other

-- no change is of a table that passes the test
abbrev pub AreElsewhere : (ℕ → Bool) → List Change → Type 0
AreElsewhere test [] = Unit {0}
AreElsewhere test (c ∷ cs) = IsFalse (test c.table) × AreElsewhere test cs

-- the tables that pass the test are settled
abbrev pub settled_if : (ℕ → Bool) → Held → Held
settled_if test h = if test h.id then record h { stored = settled h.stored } else h

abbrev pub settled_where : (ℕ → Bool) → List Held → List Held
settled_where test tables = map (settled_if test) tables

-- ---- laws, as statements

-- changes of different tables may be made in any order
abbrev pub TablesAreIndependent : Type 0
TablesAreIndependent = (origin tables : List Held) (one other : List Change) → ChangeTheSame one other → AreMade origin one tables → AreMade origin other tables

-- what was made in one go was made in two
abbrev pub ChangesAreMadeInTurn : Type 0
ChangesAreMadeInTurn =
    (origin tables : List Held) (first rest : List Change) → AreMade origin (first ++ rest) tables →
    AreMade origin first (tables_after_all first origin) × AreMade (tables_after_all first origin) rest tables

-- and the other way round
abbrev pub ChangesAreJoined : Type 0
ChangesAreJoined =
    (origin mid tables : List Held) (first rest : List Change) → AreMade origin first mid → AreMade (tables_after_all first origin) rest tables →
    AreMade origin (first ++ rest) tables

-- tables with changes made are seen with them
abbrev pub MadeTablesAreSeen : Type 0
MadeTablesAreSeen = (origin : List Held) (changes : List Change) → entries (tables_after_all changes origin) ≡ after_all changes (entries origin)

-- and have their numbers
abbrev pub MadeTablesAreThere : Type 0
MadeTablesAreThere = (origin tables : List Held) (changes : List Change) → AreMade origin changes tables → (id : ℕ) → has_number tables id ≡ has_number origin id

-- tables may be settled once some of the changes are kept, where the others aren't of these tables
abbrev pub SettledTablesAreMade : Type 0
SettledTablesAreMade =
    (test : ℕ → Bool) (origin tables : List Held) (own others : List Change) → AreElsewhere test others → AreMade origin (own ++ others) tables →
    AreMade (settled_where test (tables_after_all own origin)) others (settled_where test tables)

-- a settled table is seen as it was
abbrev pub SettledTablesAreSeen : Type 0
SettledTablesAreSeen = (test : ℕ → Bool) (tables : List Held) → entries (settled_where test tables) ≡ entries tables

-- all of them
pub record TablesAreShared : Type 0 where
  pub independent : TablesAreIndependent
  pub in_turn : ChangesAreMadeInTurn
  pub joined : ChangesAreJoined
  pub seen : MadeTablesAreSeen
  pub there : MadeTablesAreThere
  pub settled : SettledTablesAreMade
  pub settled_seen : SettledTablesAreSeen
