-- Machine: how many steps the walk of a condition, an operand or a query takes at most, one call in another.
use Rattle.std.specs.Prelude.{ℕ, ◌+◌}
use Rattle.sb_syntax.specs.Tree.{Condition, disjunction, conjunction, negation, compare, is_in, exists, Operand, expression, scalar_subquery, Filter, everything, those, Query, select}

abbrev mutual
  pub condition_size : Condition → ℕ
  condition_size (disjunction a b) = 1 + condition_size a + condition_size b
  condition_size (conjunction a b) = 1 + condition_size a + condition_size b
  condition_size (negation a) = 1 + condition_size a
  condition_size (compare a op b) = 2 + operand_size b
  condition_size (is_in a has_not q) = 2 + query_size q
  condition_size (exists q) = 2 + query_size q

  pub operand_size : Operand → ℕ
  operand_size (expression e) = 0
  operand_size (scalar_subquery q) = 1 + query_size q

  pub filter_size : Filter → ℕ
  filter_size everything = 0
  filter_size (those c) = 1 + condition_size c

  pub query_size : Query → ℕ
  query_size (select items sources filter) = 1 + filter_size filter
