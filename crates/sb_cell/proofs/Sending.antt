-- A cell may go to another thread: what its tenants, its log and its index hold may.
use denote.Param.Send.{IsSend, sendable}
use Rattle.std.proofs.Crossing.{crosses}
use Rattle.sb_value.proofs.value.Value.TheSendSync as value
use Rattle.sb_value.proofs.tuples.Tuples.TheSendSync as tuples
use Rattle.sb_value.proofs.id.TableId.TheSendSync as table
use Rattle.sb_value.proofs.id.RuleId.TheSendSync as rule
use Rattle.sb_value.proofs.name.Name.TheSendSync as name
use Rattle.sb_value.proofs.net.Triggers.TheSendSync as triggers
use Rattle.sb_value.proofs.rule_set.RuleSet.TheSendSync as rule_set
use Rattle.sb_syntax.proofs.tree.Arithmetic.TheSendSync as arithmetic
use Rattle.sb_syntax.proofs.tree.Comparison.TheSendSync as comparison
use Rattle.sb_check.proofs.tree.Column.TheSendSync as column
use Rattle.sb_check.proofs.tree.SourceList.TheSendSync as sources
use Rattle.sb_check.proofs.tree.Expression.TheLaws.TheKnot as expression
use Rattle.sb_check.proofs.tree.Condition.TheLaws.TheKnot as condition
use Rattle.sb_check.specs.contracts.tree.Expression as Expression
use Rattle.sb_check.specs.contracts.tree.ExpressionList as ExpressionList
use Rattle.sb_check.specs.contracts.tree.Items as Items
use Rattle.sb_check.specs.contracts.tree.Condition as Condition
use Rattle.sb_check.specs.contracts.tree.Query as Query
use Rattle.sb_check.specs.contracts.tree.Operand as Operand
use Rattle.sb_check.specs.contracts.tree.Assignments as Assignments
use Rattle.sb_check.specs.contracts.tree.Statement as Statement
use Rattle.sb_check.specs.contracts.tree.Actions as Actions
use Rattle.sb_priority.proofs.priorities.Priorities.TheSendSync as priorities
use Rattle.sb_catalog.proofs.rulesets.Rulesets.TheSendSync as rulesets
use Rattle.sb_rawlog.proofs.raw.RawLog.TheSendSync as log
use Rattle.sb_index.proofs.index.RuleIndex.TheSendSync as index
use Rattle.sb_catalog.below.indexmap.proofs.map.IndexMap.TheSendSync as map
use Rattle.sb_catalog.proofs.places.Places.TheSendSync as places
use Rattle.sb_catalog.specs.contracts.rule.Rule as Rule
use Rattle.sb_catalog.specs.contracts.catalog.Catalog as Catalog
use Rattle.sb_catalog.specs.contracts.definitions.Definitions as Definitions
use Rattle.sb_process.proofs.database.Database.TheSendSync as database
use Rattle.sb_process.proofs.step_watch.StepWatch.TheSendSync as watch
use Rattle.sb_tenant.proofs.phase.Phases.TheSendSync as phases
use Rattle.sb_tenant.proofs.reply.Entry.TheSendSync as entry
use Rattle.sb_tenant.proofs.end_lines.EndLines.TheSendSync as end_lines
use Rattle.sb_tenant.proofs.lines.KnownLines.TheSendSync as known_lines
use Rattle.sb_tenant.specs.contracts.tenant.Tenant as Tenant
use Rattle.sb_cell.specs.contracts.cell.Cell as Cell

-- the trees of statements and conditions
expression_send : IsSend Expression.the_row
expression_send = search (sendable, crosses, expression.crosses, value.the_field_send, column.the_field_send, arithmetic.the_field_send) depth 40

list_send : IsSend ExpressionList.the_row
list_send = search (sendable, crosses, expression_send) depth 40

items_send : IsSend (Items.the_field).row
items_send = search (sendable, crosses, expression_send, list_send) depth 40

condition_send : IsSend Condition.the_row
condition_send = search (sendable, crosses, condition.crosses, expression_send, items_send, comparison.the_field_send, sources.the_send) depth 40

operand_send : IsSend Operand.the_row
operand_send = search (sendable, crosses, condition.crosses, expression_send, items_send, comparison.the_field_send, sources.the_send) depth 40

query_send : IsSend Query.the_row
query_send = search (sendable, crosses, condition.crosses, expression_send, items_send, comparison.the_field_send, sources.the_send) depth 40

assignments_send : IsSend Assignments.the_row
assignments_send = search (sendable, crosses, operand_send) depth 40

statement_send : IsSend (Statement.the_field).row
statement_send = search (sendable, crosses, assignments_send, condition_send, query_send, tuples.the_send, table.the_send) depth 40

actions_send : IsSend Actions.the_row
actions_send = search (sendable, crosses, statement_send) depth 40

rule_send : IsSend Rule.the_row
rule_send = search (sendable, crosses, actions_send, query_send, triggers.the_field_send, name.the_send, rule.the_send, table.the_send) depth 40

-- ---- a tenant and its cell

catalog_send : IsSend Catalog.the_row
catalog_send = search (sendable, crosses, rule_send, map.the_send, name.the_send, places.the_send, rule_set.the_send) depth 40

definitions_send : IsSend (Definitions.the_field).row
definitions_send = search (sendable, crosses, catalog_send, priorities.the_send, rulesets.the_send) depth 40

tenant_send : IsSend Tenant.the_row
tenant_send = search (sendable, crosses, definitions_send, database.the_field_send, phases.the_send, entry.the_send, end_lines.the_send, known_lines.the_field_send) depth 40

pub cell_send : IsSend Cell.the_row
cell_send = search (sendable, crosses, tenant_send, log.the_send, index.the_send, watch.the_field_send) depth 40
