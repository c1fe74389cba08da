-- Promise: the walks of conditions, operands and queries under names that proofs don't open by themselves.
use Rattle.std.specs.Prelude.{Result}
use Rattle.sb_value.specs.declared.refusal.Refusal.{Refusal}
use Rattle.sb_value.specs.declared.value.ColumnType.{ColumnType}
use Rattle.sb_syntax.specs.Tree as text
use Rattle.sb_check.specs.Condition.{Condition, Operand}
use Rattle.sb_check.specs.Names.{Scope}
use Rattle.sb_check.specs.Walk.{Schema, Walked, walk_condition, walk_operand, walk_filter, walk_query}

unfoldable pub condition_walk : Schema → text.Condition → Scope → Result Condition Refusal
condition_walk schema c scope = walk_condition schema c scope

unfoldable pub operand_walk : Schema → text.Operand → Scope → Result (Operand × ColumnType) Refusal
operand_walk schema o scope = walk_operand schema o scope

unfoldable pub filter_walk : Schema → text.Filter → Scope → Result Condition Refusal
filter_walk schema f scope = walk_filter schema f scope

unfoldable pub query_walk : Schema → text.Query → Scope → Result Walked Refusal
query_walk schema q scope = walk_query schema q scope
