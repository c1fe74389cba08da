use Rattle.sb_value.proofs.TupleLaws.{opened_more}
use Rattle.sb_value.proofs.tuples.OpenTuples.push.Goals as goal

pub returns-clause-ok : goal.returns-clause-ok
returns-clause-ok c =
    rw (← c.self.view_is, c.in_ok-push.ensures.items) (opened_more c.self.inside.widths.items c.self.inside.closed c.self.inside.values.items c.args.value c.self.invariant.0 c.self.invariant.1)
