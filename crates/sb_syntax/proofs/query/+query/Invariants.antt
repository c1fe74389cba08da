use Rattle.std.proofs.Common.{◌+◌, ◌*◌, length}
use Rattle.sb_syntax.specs.Reading.{ands, ors, neg, conj, cond, inner_query}
use Rattle.sb_syntax.specs.Turns.{GoesOn}
use Rattle.sb_syntax.specs.Views.{condition}
use Rattle.sb_syntax.proofs.query.+query.Given as goal

-- the rank of each function within one depth and nesting
abbrev pub decreases-subquery : goal.decreases-subquery
decreases-subquery l = 1000 * l.depth

abbrev pub decreases-operand : goal.decreases-operand
decreases-operand l = 1000 * l.depth + 1

abbrev pub decreases-member : goal.decreases-member
decreases-member l = 1000 * l.depth + 1

abbrev pub decreases-predicate : goal.decreases-predicate
decreases-predicate l = 1000 * l.depth + 2

abbrev pub decreases-group : goal.decreases-group
decreases-group l = 1000 * l.depth + 10 * l.nesting + 3

abbrev pub decreases-neg : goal.decreases-neg
decreases-neg l = 1000 * l.depth + 10 * l.nesting + 4

abbrev pub decreases-conj : goal.decreases-conj
decreases-conj l = 1000 * l.depth + 10 * l.nesting + 5

abbrev pub decreases-cond : goal.decreases-cond
decreases-cond l = 1000 * l.depth + 10 * l.nesting + 6

abbrev pub decreases-filter : goal.decreases-filter
decreases-filter l = 1000 * l.depth + 330

abbrev pub decreases-query : goal.decreases-query
decreases-query l = 1000 * l.depth + 331

abbrev pub invariant-conj-more : goal.invariant-conj-more
invariant-conj-more l =
    let item = neg (inner_query l.depth) l.nesting in
    GoesOn ands item (conj item l.fn.tokens) (length l.fn.tokens) (condition l.left.value) l.tokens

abbrev pub decreases-conj-more : goal.decreases-conj-more
decreases-conj-more l = length l.tokens

abbrev pub invariant-cond-more : goal.invariant-cond-more
invariant-cond-more l =
    let item = neg (inner_query l.depth) l.nesting in
    GoesOn ors (conj item) (cond item l.fn.tokens) (length l.fn.tokens) (condition l.left.value) l.tokens

abbrev pub decreases-cond-more : goal.decreases-cond-more
decreases-cond-more l = length l.tokens
