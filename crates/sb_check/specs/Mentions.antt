-- Promise: the sources that conditions, operands, queries and statements mention, in the order of the text, and a statement's target.
use Rattle.std.specs.Prelude.{ℕ, List, [], ◌∷◌, ◌++◌}
use Rattle.sb_check.specs.Condition.{Condition, always, disjunction, conjunction, negation, compare, is_in, exists, Operand, expression, scalar_subquery, Query, select}
use Rattle.sb_check.specs.declared.tree.Source.{Source}
use Rattle.sb_check.specs.declared.tree.Assignment.{Assignment}
use Rattle.sb_check.specs.declared.tree.Statement.{Statement}
use Rattle.sb_check.specs.declared.tree.Statement.TheVariants.{InsertRows, InsertQuery, Delete, Update}

-- the sources of a query, and then those of the subqueries of its condition
abbrev mutual
  pub sources_of : Condition → List Source
  sources_of always = []
  sources_of (disjunction a b) = sources_of a ++ sources_of b
  sources_of (conjunction a b) = sources_of a ++ sources_of b
  sources_of (negation a) = sources_of a
  sources_of (compare a op b) = operand_sources b
  sources_of (is_in a q) = query_sources q
  sources_of (exists q) = query_sources q

  pub operand_sources : Operand → List Source
  operand_sources (expression e) = []
  operand_sources (scalar_subquery q) = query_sources q

  pub query_sources : Query → List Source
  query_sources (select items sources c) = sources ++ sources_of c

-- the sources of the assignments' queries, in order
abbrev pub assignment_sources : List Assignment → List Source
assignment_sources [] = []
assignment_sources (a ∷ rest) = operand_sources a.operand ++ assignment_sources rest

-- the sources of a statement, in order; its target is none of them
abbrev pub mentioned : Statement → List Source
mentioned (InsertRows t rows) = []
mentioned (InsertQuery t q) = query_sources q
mentioned (Delete t c) = sources_of c
mentioned (Update t assignments c) = assignment_sources assignments ++ sources_of c

-- the table that a statement changes
abbrev pub target : Statement → ℕ
target (InsertRows t rows) = t
target (InsertQuery t q) = t
target (Delete t c) = t
target (Update t assignments c) = t
