-- Promise: commands whose names are resolved, and what a command asks of its session.
use Rattle.std.specs.Prelude.{ℕ, List}
use Rattle.sb_value.specs.declared.value.ColumnDefinition.{ColumnDefinition}
use Rattle.sb_check.specs.Condition.{Query}
use Rattle.sb_check.specs.declared.tree.Statement.{Statement}
use Rattle.sb_check.specs.RuleParts.{Parts, NewParts}

-- a rule as a command gives it: its name, what the tables tell of it, and the pairs of precedence that it brings
pub record NewRule : Type 0 where
  pub name : List ℕ
  pub parts : Parts
  pub pairs : List (ℕ × ℕ)

-- a rule as a command alters it: its number, its new parts as far as they are written, and all pairs of precedence that stand then
pub record AlteredRule : Type 0 where
  pub id : ℕ
  pub parts : NewParts
  pub pairs : List (ℕ × ℕ)

-- tables and rules by their ids, rulesets by their names; what a rule, a query and a statement name is resolved as the tables tell it
pub data Resolved : Type 0 where
  open_session : Resolved
  end_session : Resolved
  begin : Resolved
  commit : Resolved
  rollback : Resolved
  process_rules : Resolved
  process_ruleset : List ℕ → Resolved
  process_rule : ℕ → Resolved
  create_table : List ℕ → List ColumnDefinition → Resolved
  drop_table : ℕ → Resolved
  create_rule : NewRule → Resolved
  alter_rule : AlteredRule → Resolved
  drop_rule : ℕ → Resolved
  activate_rule : ℕ → Resolved
  deactivate_rule : ℕ → Resolved
  create_ruleset : List ℕ → Resolved
  drop_ruleset : List ℕ → Resolved
  add_rules : List ℕ → List ℕ → Resolved
  del_rules : List ℕ → List ℕ → Resolved
  query : Query → Resolved
  change : Statement → Resolved

-- what a command asks of its session: `open`, `end` and `begin` have a class each; the others define what has a name, or work in a transaction
pub data Class : Type 0 where
  opens : Class
  ends : Class
  begins : Class
  defines : Class
  works : Class
