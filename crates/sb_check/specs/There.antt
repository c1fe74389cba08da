-- Machine: what a resolved command names is there: each table that it has as a target or a source is one of the tables.
use Rattle.std.specs.Prelude.{◌≡◌, ℕ, List, [], ◌∷◌, ◌++◌, length, Option, None, Some, Ok, IsTrue}
use Rattle.sb_value.specs.declared.net.Triggers.{Triggers}
use Rattle.sb_value.specs.declared.value.ColumnDefinition.{ColumnDefinition}
use Rattle.sb_value.specs.Table.{Entry, has_table}
use Rattle.sb_syntax.specs.Tree.{RuleText, AlterationText}
use Rattle.sb_syntax.specs.Tree as text
use Rattle.sb_check.specs.Condition.{Query}
use Rattle.sb_check.specs.Mentions.{sources_of, query_sources, assignment_sources}
use Rattle.sb_check.specs.RuleParts.{Parts, NewParts, walk_alteration, walk_parts}
use Rattle.sb_check.specs.Walk.{Schema, Walked, walk_query, walk_statement}
use Rattle.sb_check.specs.declared.tree.Source.{Source}
use Rattle.sb_check.specs.declared.tree.Source.TheVariants.{Table, Inserted, Deleted, OldUpdated, NewUpdated}
use Rattle.sb_check.specs.declared.tree.Statement.{Statement}
use Rattle.sb_check.specs.declared.tree.Statement.TheVariants.{InsertRows, InsertQuery, Delete, Update}
use Rattle.sb_check.specs.declared.tree.Action.{Action}
use Rattle.sb_check.specs.declared.tree.Action.TheVariants as action

module _ (tables : List Entry) where
  -- a table has that number
  abbrev pub IsTable : ℕ → Type 0
  IsTable id = IsTrue (has_table tables id)

  -- a source that is a table is one of them; a transition table is there anyway
  abbrev pub IsThere : Source → Type 0
  IsThere (Table id) = IsTable id
  IsThere Inserted = Unit {0}
  IsThere Deleted = Unit {0}
  IsThere OldUpdated = Unit {0}
  IsThere NewUpdated = Unit {0}

  abbrev pub AreThere : List Source → Type 0
  AreThere [] = Unit {0}
  AreThere (s ∷ sources) = IsThere s × AreThere sources

  -- a statement's target and its sources
  abbrev pub IsStatementThere : Statement → Type 0
  IsStatementThere (InsertRows id rows) = IsTable id
  IsStatementThere (InsertQuery id q) = IsTable id × AreThere (query_sources q)
  IsStatementThere (Delete id c) = IsTable id × AreThere (sources_of c)
  IsStatementThere (Update id assignments c) = IsTable id × AreThere (assignment_sources assignments ++ sources_of c)

  -- the condition of a rule, if it has one
  abbrev pub IsConditionThere : Option Query → Type 0
  IsConditionThere None = Unit {0}
  IsConditionThere (Some q) = AreThere (query_sources q)

  abbrev pub AreActionsThere : List Action → Type 0
  AreActionsThere [] = Unit {0}
  AreActionsThere (action.Rollback ∷ actions) = AreActionsThere actions
  AreActionsThere (action.Change s ∷ actions) = IsStatementThere s × AreActionsThere actions

  -- a rule's table, its condition and its actions, of which it has as many as its text
  pub record ArePartsThere (r : RuleText) (parts : Parts) : Type 0 where
    pub table : IsTable parts.0
    pub condition : IsConditionThere parts.2
    pub actions : AreActionsThere parts.3
    pub count : length parts.3 ≡ length r.actions

  -- actions that are written, of which there are as many as in their text
  abbrev pub AreNewActionsThere : Option (List text.Action) → Option (List Action) → Type 0
  AreNewActionsThere written None = Unit {0}
  AreNewActionsThere None (Some actions) = ⊥
  AreNewActionsThere (Some written) (Some actions) = AreActionsThere actions × (length actions ≡ length written)

  -- a rule's new condition and actions
  pub record AreNewPartsThere (r : AlterationText) (parts : NewParts) : Type 0 where
    pub condition : IsConditionThere parts.0
    pub actions : AreNewActionsThere r.actions parts.1

-- ---- what is resolved is there

abbrev pub ResolvedQueriesAreThere : Type 0
ResolvedQueriesAreThere =
    (names : Schema) (q : text.Query) (w : Walked) → walk_query names q [] ≡ Ok w →
    AreThere names.tables (query_sources w.0)

abbrev pub ResolvedStatementsAreThere : Type 0
ResolvedStatementsAreThere =
    (names : Schema) (c : text.Statement) (s : Statement) → walk_statement names c ≡ Ok s →
    IsStatementThere names.tables s

abbrev pub ResolvedRulesAreThere : Type 0
ResolvedRulesAreThere =
    (names : Schema) (r : RuleText) (parts : Parts) → walk_parts names r ≡ Ok parts →
    ArePartsThere names.tables r parts

abbrev pub ResolvedAlterationsAreThere : Type 0
ResolvedAlterationsAreThere =
    (names : Schema) (columns : List ColumnDefinition) (triggers : Triggers) (r : AlterationText) (parts : NewParts) →
    walk_alteration names columns triggers r ≡ Ok parts → AreNewPartsThere names.tables r parts
