use Rattle.std.proofs.Common.{◌+◌, ◌*◌}
use Rattle.std.specs.Prelude.{max}
use Rattle.sb_check.specs.Expression.{depth}
use Rattle.sb_plan.proofs.expression.+number.Given as goal

abbrev pub decreases-part : goal.decreases-part
decreases-part l = 2 * depth l.e.now

abbrev pub decreases-number : goal.decreases-number
decreases-number l = 1 + 2 * max (depth l.a.now) (depth l.b.now)
