-- Promise: how many queries outward an expression, a condition or a query looks.
use Rattle.std.specs.Prelude.{ℕ, ◌+◌, ◌-◌, max, List, [], ◌∷◌}
use Rattle.sb_check.specs.Expression.{Expression, literal, column, binary}
use Rattle.sb_check.specs.Condition.{Condition, always, disjunction, conjunction, negation, compare, is_in, exists, Operand, expression, scalar_subquery, Query, select}
use Rattle.sb_check.specs.declared.tree.Items.{Items}
use Rattle.sb_check.specs.declared.tree.Items.TheVariants.{All, Count, Sum, Each}

-- 1 for a column of the query itself, 2 for one of the query around it, and so on; 0 where no column is named
abbrev pub expression_reach : Expression → ℕ
expression_reach (literal v) = 0
expression_reach (column c) = c.depth + 1
expression_reach (binary a op b) = max (expression_reach a) (expression_reach b)

abbrev pub expressions_reach : List Expression → ℕ
expressions_reach [] = 0
expressions_reach (e ∷ es) = max (expression_reach e) (expressions_reach es)

abbrev pub items_reach : Items → ℕ
items_reach All = 0
items_reach Count = 0
items_reach (Sum e) = expression_reach e
items_reach (Each es) = expressions_reach es

abbrev mutual
  pub condition_reach : Condition → ℕ
  condition_reach always = 0
  condition_reach (disjunction a b) = max (condition_reach a) (condition_reach b)
  condition_reach (conjunction a b) = max (condition_reach a) (condition_reach b)
  condition_reach (negation a) = condition_reach a
  condition_reach (compare a op b) = max (expression_reach a) (operand_reach b)
  condition_reach (is_in a q) = max (expression_reach a) (query_reach q)
  condition_reach (exists q) = query_reach q

  pub operand_reach : Operand → ℕ
  operand_reach (expression e) = expression_reach e
  operand_reach (scalar_subquery q) = query_reach q

  -- 0 where it names no column of a query around it
  pub query_reach : Query → ℕ
  query_reach (select items sources c) = max (items_reach items) (condition_reach c) - 1
