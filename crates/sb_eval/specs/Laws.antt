-- Promise: a law of statements: their changes can be made one after another.
use Rattle.std.specs.Prelude.{◌≡◌, ◌≤◌, ◌<◌, ◌+◌, ℕ, List, [], ◌∷◌, length, IsTrue, Ok}
use Rattle.sb_value.specs.declared.change.Change.{Change}
use Rattle.sb_value.specs.declared.change.ChangeKind.{ChangeKind}
use Rattle.sb_value.specs.declared.change.ChangeKind.TheVariants.{Inserted, Deleted, Updated}
use Rattle.sb_value.specs.declared.id.Who.{Who}
use Rattle.sb_value.specs.Table.{Entry, IsProper, IsTable, has_table, table_at}
use Rattle.sb_check.specs.declared.tree.Statement.{Statement}
use Rattle.sb_plan.specs.Seen.{Seen}
use Rattle.sb_eval.specs.Statement.{statement_changes}
use Rattle.sb_eval.specs.Target.{target}

-- how many of the changes are inserts
abbrev pub counted_with : ChangeKind → ℕ → ℕ
counted_with Inserted n = n + 1
counted_with Deleted n = n
counted_with Updated n = n

abbrev pub inserts : List Change → ℕ
inserts [] = 0
inserts (c ∷ cs) = counted_with c.kind (inserts cs)

-- a change of the table by the session, which names no column past the eighth
pub record IsChangeOf (who : Who) (id : ℕ) (c : Change) : Type 0 where
  pub tenant : c.tenant ≡ who.tenant
  pub session : c.session ≡ who.session
  pub table : c.table ≡ id
  pub columns : length c.columns ≤ 8

abbrev pub AreChangesOf : Who → ℕ → List Change → Type 0
AreChangesOf who id [] = Unit {0}
AreChangesOf who id (c ∷ cs) = IsChangeOf who id c × AreChangesOf who id cs

-- the changes can be made one after another, all of one table and by one session, and none is inserted above 4096 rows
pub record AreMakeable (tables : List Entry) (who : Who) (id : ℕ) (changes : List Change) : Type 0 where
  pub proper : IsProper tables changes
  pub own : AreChangesOf who id changes
  pub few : 0 < inserts changes → length (table_at tables id).rows + inserts changes ≤ 4096

-- the changes of a statement can be made of the tables that it sees
abbrev pub ChangesAreProper : Type 0
ChangesAreProper =
    (seen : Seen) (statement : Statement) (changes : List Change) →
    IsTrue (has_table seen.tables (target statement)) → IsTable (table_at seen.tables (target statement)) → statement_changes seen statement ≡ Ok changes →
    AreMakeable seen.tables seen.who (target statement) changes
