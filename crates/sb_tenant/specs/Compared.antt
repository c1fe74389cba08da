-- Machine: parts of tenants, compared from a place on.
use Rattle.std.specs.Prelude.{◌≡◌, ℕ, Bool, List, map, drop, All}
use Rattle.sb_value.specs.Table.{Entry, IsTable}
use Rattle.sb_tables.specs.Held.{Held, entries}
use Rattle.sb_priority.specs.Closed.{relates}
use Rattle.sb_tenant.specs.Alike.{AreApart, shown}

-- no two tables have one number, and each numbers its tuples in order
abbrev pub AreSettled : List Entry → Type 0
AreSettled tables = AreApart tables × All (λ e. IsTable e.table) tables

-- so it is from a place on
abbrev pub AreSettledFrom : List Held → ℕ → Type 0
AreSettledFrom tables place = AreSettled (drop place (entries tables))

-- from a place on the tables are shown alike
abbrev pub ShowAlikeFrom : List Held → List Held → ℕ → Type 0
ShowAlikeFrom one other place = map shown (drop place (entries one)) ≡ map shown (drop place (entries other))

-- from a place on they are the same
abbrev pub AreSameFrom : {A : Type 0} → List A → List A → ℕ → Type 0
AreSameFrom one other place = drop place one ≡ drop place other

-- the same rules are put before a rule
abbrev pub HaveSameBefore : List (List Bool) → List (List Bool) → ℕ → Type 0
HaveSameBefore one other b = (a : ℕ) → relates one a b ≡ relates other a b
