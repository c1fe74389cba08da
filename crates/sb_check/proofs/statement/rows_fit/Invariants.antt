use Rattle.std.proofs.Common.{◌≡◌, length}
use Rattle.sb_check.specs.Statements.{rows_fitting}
use Rattle.sb_check.proofs.statement.rows_fit.Given as goal

-- the rows so far fit
abbrev pub invariant-more : goal.invariant-more
invariant-more l = rows_fitting l.columns l.rows ≡ rows_fitting l.columns l.left

abbrev pub decreases-more : goal.decreases-more
decreases-more l = length l.left
