-- Promise: commands as trees, with their names unresolved and without where they lie in memory.
use Rattle.std.specs.Prelude.{ℕ, Bool, List, Option}
use Rattle.sb_value.specs.declared.value.Value.{Value}
use Rattle.sb_value.specs.declared.value.ColumnDefinition.{ColumnDefinition}
use Rattle.sb_syntax.specs.declared.tree.ColumnReference.{ColumnReference}
use Rattle.sb_syntax.specs.declared.tree.SourceReference.{SourceReference}
use Rattle.sb_syntax.specs.declared.tree.Arithmetic.{Arithmetic}
use Rattle.sb_syntax.specs.declared.tree.Comparison.{Comparison}

abbrev pub Name : Type 0
Name = List ℕ

pub data Expression : Type 0 where
  literal : Value → Expression
  column : ColumnReference → Expression
  binary : Expression → Arithmetic → Expression → Expression

pub data Items : Type 0 where
  all : Items
  count : Items
  sum_of : Expression → Items
  each_of : List Expression → Items

mutual
  pub data Condition : Type 0 where
    disjunction : Condition → Condition → Condition
    conjunction : Condition → Condition → Condition
    negation : Condition → Condition
    compare : Expression → Comparison → Operand → Condition
    -- whether `not` is written, too
    is_in : Expression → Bool → Query → Condition
    exists : Query → Condition

  pub data Operand : Type 0 where
    expression : Expression → Operand
    scalar_subquery : Query → Operand

  -- a `where`, or none
  pub data Filter : Type 0 where
    everything : Filter
    those : Condition → Filter

  pub data Query : Type 0 where
    select : Items → List SourceReference → Filter → Query

pub record Assignment : Type 0 where
  pub column : Name
  pub operand : Operand

pub data Statement : Type 0 where
  insert_rows : Name → List (List Value) → Statement
  insert_query : Name → Query → Statement
  delete : Name → Filter → Statement
  update : Name → List Assignment → Filter → Statement

pub data Action : Type 0 where
  changes : Statement → Action
  rolls_back : Action

pub data Trigger : Type 0 where
  on_insert : Trigger
  on_delete : Trigger
  on_update : Trigger
  on_update_of : List Name → Trigger

pub record RuleText : Type 0 where
  pub name : Name
  pub table : Name
  pub triggers : List Trigger
  -- the query behind `if`
  pub condition : Option Query
  pub actions : List Action
  pub precedes : List Name
  pub follows : List Name

-- what `alter rule` writes of a rule
pub record AlterationText : Type 0 where
  pub name : Name
  -- the query behind `if`, or none
  pub condition : Option Query
  -- the actions behind `then`, or none
  pub actions : Option (List Action)
  pub precedes : List Name
  pub follows : List Name
  pub nopriority : List Name

pub data Command : Type 0 where
  open_session : Command
  end_session : Command
  begin : Command
  commit : Command
  rollback : Command
  process_rules : Command
  process_ruleset : Name → Command
  process_rule : Name → Command
  create_table : Name → List ColumnDefinition → Command
  drop_table : Name → Command
  create_rule : RuleText → Command
  alter_rule : AlterationText → Command
  drop_rule : Name → Command
  activate_rule : Name → Command
  deactivate_rule : Name → Command
  create_ruleset : Name → Command
  drop_ruleset : Name → Command
  add_rules : Name → List Name → Command
  del_rules : Name → List Name → Command
  query : Query → Command
  change : Statement → Command
