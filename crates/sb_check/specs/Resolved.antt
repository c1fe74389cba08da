-- Promise: a whole command with its names and types, as far as the tables tell them.
use Rattle.std.specs.Prelude.{ℕ, Bool, false, not, ◌||◌, List, [], ◌∷◌, Result, Ok}
use Rattle.std.specs.List.{list_any}
use Rattle.sb_value.specs.declared.value.ColumnDefinition.{ColumnDefinition}
use Rattle.sb_value.specs.declared.refusal.Refusal.{Refusal}
use Rattle.sb_value.specs.declared.refusal.Refusal.TheVariants as refusal
use Rattle.sb_value.specs.Name.{same_name}
use Rattle.sb_syntax.specs.Tree as text
use Rattle.sb_check.specs.Condition.{Query}
use Rattle.sb_check.specs.declared.tree.Statement.{Statement}
use Rattle.sb_check.specs.declared.command.Resolved as stored
use Rattle.sb_check.specs.declared.command.Resolved.TheVariants as variant
use Rattle.sb_check.specs.Names.{and_then, required}
use Rattle.sb_check.specs.RuleParts.{Parts, walk_parts}
use Rattle.sb_check.specs.RulePartsView.{rule_parts}
use Rattle.sb_check.specs.Walk.{Schema, table_named, walk_query, walk_statement}

-- a command by what the tables tell of it: nothing; a new table that may be made; a table's id; the parts of a rule; a query; a statement
pub data Resolved : Type 0 where
  plain : Resolved
  new_table : Resolved
  table : ℕ → Resolved
  rule : Parts → Resolved
  query : Query → Resolved
  change : Statement → Resolved

-- a column that is named twice
abbrev pub named_twice : List ColumnDefinition → Bool
named_twice [] = false
named_twice (c ∷ cs) = list_any (λ d. same_name c.name d.name) cs || named_twice cs

-- each command, in the order in which names and types refuse it
abbrev pub walk_names : Schema → text.Command → Result Resolved Refusal
walk_names schema (text.create_table name columns) =
    required (not (list_any (λ e. same_name e.name name) schema.tables)) refusal.TableExists
    (required (not (named_twice columns)) refusal.Ambiguous (Ok new_table))
walk_names schema (text.drop_table name) = and_then (table_named schema name) (λ e. Ok (table e.id))
walk_names schema (text.create_rule r) = and_then (walk_parts schema r) (λ parts. Ok (rule parts))
walk_names schema (text.query q) = and_then (walk_query schema q []) (λ w. Ok (query w.0))
walk_names schema (text.change c) = and_then (walk_statement schema c) (λ s. Ok (change s))
walk_names schema text.open_session = Ok plain
walk_names schema text.end_session = Ok plain
walk_names schema text.begin = Ok plain
walk_names schema text.commit = Ok plain
walk_names schema text.rollback = Ok plain
walk_names schema text.process_rules = Ok plain
walk_names schema (text.process_ruleset name) = Ok plain
walk_names schema (text.process_rule name) = Ok plain
walk_names schema (text.alter_rule r) = Ok plain
walk_names schema (text.drop_rule name) = Ok plain
walk_names schema (text.activate_rule name) = Ok plain
walk_names schema (text.deactivate_rule name) = Ok plain
walk_names schema (text.create_ruleset name) = Ok plain
walk_names schema (text.drop_ruleset name) = Ok plain
walk_names schema (text.add_rules name rules) = Ok plain
walk_names schema (text.del_rules name rules) = Ok plain

-- a command of the program as the walk's
abbrev pub resolved : stored.Resolved → Resolved
resolved variant.Plain = plain
resolved variant.NewTable = new_table
resolved (variant.Table id) = table id
resolved (variant.Rule parts) = rule (rule_parts parts)
resolved (variant.Query q) = query q
resolved (variant.Change s) = change s
