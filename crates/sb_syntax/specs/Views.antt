-- Promise: the tree that a value of the program stands for.
use Rattle.std.specs.Prelude.{map, option_map, Option, None, Some}
use Rattle.sb_syntax.specs.declared.tree.Expression.{Expression as Stored, Literal, Column, Binary'}
use Rattle.sb_syntax.specs.declared.tree.Items.{Items}
use Rattle.sb_syntax.specs.declared.tree.Items.TheVariants.{All, Count, Sum, Each}
use Rattle.sb_syntax.specs.declared.tree.Condition.{Condition, Disjunction', Conjunction', Negation', Compare, In', Exists', Held-Query-filter, None', Some'}
use Rattle.sb_syntax.specs.declared.tree.Operand.{Operand, Expression, ScalarSubquery'}
use Rattle.sb_syntax.specs.declared.tree.Query.{Query}
use Rattle.sb_syntax.specs.declared.tree.Assignment.{Assignment}
use Rattle.sb_syntax.specs.declared.tree.Statement.{Statement}
use Rattle.sb_syntax.specs.declared.tree.Statement.TheVariants.{InsertRows, InsertQuery, Delete, Update}
use Rattle.sb_syntax.specs.declared.tree.Action.{Action}
use Rattle.sb_syntax.specs.declared.tree.Action.TheVariants as actions
use Rattle.sb_syntax.specs.declared.tree.Trigger.{Trigger}
use Rattle.sb_syntax.specs.declared.tree.Trigger.TheVariants as triggers
use Rattle.sb_syntax.specs.declared.tree.RuleText.{RuleText}
use Rattle.sb_syntax.specs.declared.tree.AlterationText.{AlterationText}
use Rattle.sb_syntax.specs.declared.tree.Command.{Command}
use Rattle.sb_syntax.specs.declared.tree.Command.TheVariants as commands
use Rattle.sb_syntax.specs.declared.tree.Definition.{Definition}
use Rattle.sb_syntax.specs.declared.tree.Definition.TheVariants as definitions
use Rattle.sb_syntax.specs.declared.tree.TransactionCommand.{TransactionCommand}
use Rattle.sb_syntax.specs.declared.tree.TransactionCommand.TheVariants as transactions
use Rattle.sb_syntax.specs.Tree as tree

abbrev pub expression : Stored → tree.Expression
expression (Literal v) = tree.literal v
expression (Column c) = tree.column c
expression (Binary' p a op q b) = tree.binary (expression a) op (expression b)

abbrev pub items : Items → tree.Items
items All = tree.all
items Count = tree.count
items (Sum e) = tree.sum_of (expression e)
items (Each es) = tree.each_of (map expression es.items)

abbrev mutual
  pub condition : Condition → tree.Condition
  condition (Disjunction' p a q b) = tree.disjunction (condition a) (condition b)
  condition (Conjunction' p a q b) = tree.conjunction (condition a) (condition b)
  condition (Negation' p a) = tree.negation (condition a)
  condition (Compare e op s) = tree.compare (expression e) op (operand s)
  condition (In' e n p i sources f) = tree.is_in (expression e) n (tree.select (items i) sources.items (held_filter f))
  condition (Exists' p i sources f) = tree.exists (tree.select (items i) sources.items (held_filter f))

  pub operand : Operand → tree.Operand
  operand (Expression e) = tree.expression (expression e)
  operand (ScalarSubquery' p i sources f) = tree.scalar_subquery (tree.select (items i) sources.items (held_filter f))

  pub held_filter : Held-Query-filter → tree.Filter
  held_filter None' = tree.everything
  held_filter (Some' a) = tree.those (condition a)

abbrev pub filter : Option Condition → tree.Filter
filter None = tree.everything
filter (Some a) = tree.those (condition a)

abbrev pub query : Query → tree.Query
query q = tree.select (items q.items) q.sources.items (filter q.filter)

abbrev pub assignment : Assignment → tree.Assignment
assignment a = record { column = a.column; operand = operand a.operand }

abbrev pub statement : Statement → tree.Statement
statement (InsertRows n tuples) = tree.insert_rows n tuples
statement (InsertQuery n q) = tree.insert_query n (query q.value)
statement (Delete n f) = tree.delete n (filter (option_map (λ a. a.value) f))
statement (Update n assignments f) = tree.update n (map assignment assignments.items) (filter (option_map (λ a. a.value) f))

abbrev pub action : Action → tree.Action
action (actions.Change c) = tree.changes (statement c)
action actions.Rollback = tree.rolls_back

abbrev pub trigger : Trigger → tree.Trigger
trigger triggers.Insert = tree.on_insert
trigger triggers.Delete = tree.on_delete
trigger triggers.Update = tree.on_update
trigger (triggers.UpdateOf columns) = tree.on_update_of columns.items

abbrev pub rule : RuleText → tree.RuleText
rule r = record {
  name = r.name;
  table = r.table;
  triggers = map trigger r.triggers.items;
  condition = option_map query r.condition;
  actions = map action r.actions.items;
  precedes = r.precedes.items;
  follows = r.follows.items;
}

abbrev pub alteration : AlterationText → tree.AlterationText
alteration r = record {
  name = r.name;
  condition = option_map query r.condition;
  actions = option_map (λ all. map action all.items) r.actions;
  precedes = r.precedes.items;
  follows = r.follows.items;
  nopriority = r.nopriority.items;
}

abbrev pub definition : Definition → tree.Command
definition (definitions.CreateTable n columns) = tree.create_table n columns.items
definition (definitions.DropTable n) = tree.drop_table n
definition (definitions.CreateRule r) = tree.create_rule (rule r.value)
definition (definitions.AlterRule r) = tree.alter_rule (alteration r.value)
definition (definitions.DropRule n) = tree.drop_rule n
definition (definitions.ActivateRule n) = tree.activate_rule n
definition (definitions.DeactivateRule n) = tree.deactivate_rule n
definition (definitions.CreateRuleset n) = tree.create_ruleset n
definition (definitions.DropRuleset n) = tree.drop_ruleset n
definition (definitions.AddRules n rules) = tree.add_rules n rules.items
definition (definitions.DelRules n rules) = tree.del_rules n rules.items

abbrev pub transaction_command : TransactionCommand → tree.Command
transaction_command transactions.Commit = tree.commit
transaction_command transactions.Rollback = tree.rollback
transaction_command transactions.ProcessRules = tree.process_rules
transaction_command (transactions.ProcessRuleset n) = tree.process_ruleset n
transaction_command (transactions.ProcessRule n) = tree.process_rule n
transaction_command (transactions.Query q) = tree.query (query q.value)
transaction_command (transactions.Change c) = tree.change (statement c)

abbrev pub command : Command → tree.Command
command commands.OpenSession = tree.open_session
command commands.EndSession = tree.end_session
command commands.Begin = tree.begin
command (commands.Definition d) = definition d
command (commands.InTransaction c) = transaction_command c
