use Rattle.std.proofs.Common.{◌+◌, ◌*◌}
use Rattle.sb_syntax.specs.Views as view
use Rattle.sb_check.specs.Size.{condition_size, operand_size, filter_size, query_size}
use Rattle.sb_check.proofs.query.+query.Given as goal

abbrev pub decreases-condition : goal.decreases-condition
decreases-condition g l = 2 * condition_size (view.condition l.c.now)

abbrev pub decreases-compared_with : goal.decreases-compared_with
decreases-compared_with g l = 2 + 2 * operand_size (view.operand l.b.now)

abbrev pub decreases-is_in : goal.decreases-is_in
decreases-is_in g l = 2 + 2 * query_size (view.query l.q.now)

abbrev pub decreases-exists : goal.decreases-exists
decreases-exists g l = 2 + 2 * query_size (view.query l.q.now)

abbrev pub decreases-operand : goal.decreases-operand
decreases-operand g l = 2 * operand_size (view.operand l.o.now)

abbrev pub decreases-filter : goal.decreases-filter
decreases-filter g l = 2 * filter_size (view.filter l.f.now)

abbrev pub decreases-query : goal.decreases-query
decreases-query g l = 2 * query_size (view.query l.q.now)

abbrev pub decreases-over_sources : goal.decreases-over_sources
decreases-over_sources g l = 1 + 2 * filter_size (view.filter l.q.now.filter)
