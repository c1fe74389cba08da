-- Promise: tenants that are alike at rest: but for the numbers of their tuples they are the same.
use Rattle.std.specs.Prelude.{◌≡◌, ℕ, false, List, [], ◌∷◌, map, IsTrue, IsFalse, All}
use Rattle.std.specs.List.{list_any}
use Rattle.sb_value.specs.declared.value.Value.{Value}
use Rattle.sb_value.specs.declared.value.ColumnDefinition.{ColumnDefinition}
use Rattle.sb_value.specs.Locks.{sessions}
use Rattle.sb_value.specs.Table.{Entry, IsTable, has_table, values}
use Rattle.sb_priority.specs.Closed.{has_pair}
use Rattle.sb_tenant.specs.Limits.{is_session}
use Rattle.sb_tenant.specs.State.{State, Catalog, session_at, is_open, has_transaction}

-- what a table shows: its number, its name, its columns, and its rows in order
pub record Shown : Type 0 where
  pub id : ℕ
  pub name : List ℕ
  pub columns : List ColumnDefinition
  pub rows : List (List Value)

abbrev pub shown : Entry → Shown
shown e = record { id = e.id; name = e.name; columns = e.table.columns; rows = values e.table }

-- the same pairs, whatever their order
abbrev pub HaveSamePairs : List (ℕ × ℕ) → List (ℕ × ℕ) → Type 0
HaveSamePairs one other = (a b : ℕ) → has_pair one a b ≡ has_pair other a b

-- the same tables as they are shown, the same rules, rulesets and pairs
pub record AreAlikeCatalogs (one other : Catalog) : Type 0 where
  pub tables : map shown one.tables ≡ map shown other.tables
  pub rules : one.rules ≡ other.rules
  pub rulesets : one.rulesets ≡ other.rulesets
  pub pairs : HaveSamePairs one.pairs other.pairs

-- no two tables have one number
abbrev pub AreApart : List Entry → Type 0
AreApart [] = Unit {0}
AreApart (e ∷ tables) = IsFalse (has_table tables e.id) × AreApart tables

-- no session has a transaction; each table has a number of its own, and numbers its tuples in order
pub record IsAtRest (state : State) : Type 0 where
  pub ended : list_any (λ s. has_transaction (session_at state s)) sessions ≡ false
  pub apart : AreApart state.catalog.tables
  pub tables : All (λ e. IsTable e.table) state.catalog.tables

-- what a tenant at rest is made again as
pub record AreAlikeAtRest (one other : State) : Type 0 where
  pub catalogs : AreAlikeCatalogs one.catalog other.catalog
  pub first : IsAtRest one
  pub second : IsAtRest other

-- and the same sessions are open
pub record AreAlikeWithSessions (one other : State) : Type 0 where
  pub at_rest : AreAlikeAtRest one other
  pub sessions : (s : ℕ) → IsTrue (is_session s) → is_open (session_at one s) ≡ is_open (session_at other s)
