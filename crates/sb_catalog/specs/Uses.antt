-- Promise: which rules use a table: they are on it, or name it as a source or a target in their condition or actions.
use Rattle.std.specs.Prelude.{ℕ, Bool, false, ◌||◌, ◌==◌, List, Option, Some, None}
use Rattle.std.specs.List.{list_any}
use Rattle.sb_check.specs.Condition.{Query}
use Rattle.sb_check.specs.Mentions.{sources_of, query_sources, assignment_sources}
use Rattle.sb_check.specs.declared.tree.Source.{Source}
use Rattle.sb_check.specs.declared.tree.Source.TheVariants.{Table, Inserted, Deleted, OldUpdated, NewUpdated}
use Rattle.sb_check.specs.declared.tree.Statement.{Statement}
use Rattle.sb_check.specs.declared.tree.Statement.TheVariants.{InsertRows, InsertQuery, Delete, Update}
use Rattle.sb_check.specs.declared.tree.Action.{Action}
use Rattle.sb_check.specs.declared.tree.Action.TheVariants.{Change, Rollback}
use Rattle.sb_catalog.specs.declared.rule.Rule.{Rule}

-- whether a source is the table; a transition table is none
abbrev pub is_table : ℕ → Source → Bool
is_table id (Table t) = t == id
is_table id Inserted = false
is_table id Deleted = false
is_table id OldUpdated = false
is_table id NewUpdated = false

-- true if the table is among the sources
abbrev pub has_source : ℕ → List Source → Bool
has_source id sources = list_any (is_table id) sources

-- true if a statement has the table as its target or among its sources
abbrev pub statement_names : ℕ → Statement → Bool
statement_names id (InsertRows t rows) = t == id
statement_names id (InsertQuery t q) = (t == id) || has_source id (query_sources q)
statement_names id (Delete t c) = (t == id) || has_source id (sources_of c)
statement_names id (Update t assignments c) =
    (t == id) || (has_source id (assignment_sources assignments) || has_source id (sources_of c))

-- the same of an action
abbrev pub action_names : ℕ → Action → Bool
action_names id Rollback = false
action_names id (Change s) = statement_names id s

-- the same of a condition, if there is one
abbrev pub condition_names : ℕ → Option Query → Bool
condition_names id None = false
condition_names id (Some q) = has_source id (query_sources q)

-- true if a rule is on the table or names it
abbrev pub rule_names : ℕ → Rule → Bool
rule_names id rule =
    (rule.table == id) || (condition_names id rule.condition || list_any (action_names id) rule.actions)

-- whether a rule, active or not, is on the table or names it
abbrev pub is_used : List Rule → ℕ → Bool
is_used rules id = list_any (rule_names id) rules
