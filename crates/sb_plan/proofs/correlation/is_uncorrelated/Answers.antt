use Rattle.sb_plan.proofs.Uncorrelated.{uncorrelated_same}
use Rattle.sb_plan.proofs.correlation.is_uncorrelated.Goals as goal

pub returns-clause-same : goal.returns-clause-same
returns-clause-same c = λ h rows_in one other. uncorrelated_same rows_in c.args.q.now one other (c.query_within.ensures h)
