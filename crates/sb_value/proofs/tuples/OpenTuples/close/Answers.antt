use Rattle.sb_value.proofs.TupleLaws.{opened_closed}
use Rattle.sb_value.proofs.tuples.OpenTuples.close.Goals as goal

pub returns-clause-ok : goal.returns-clause-ok
returns-clause-ok c =
    rw (← c.self.view_is, c.in_ok-push.ensures.ok, c.as_slice-end.ensures.value) (opened_closed c.self.inside.widths.items c.self.inside.closed c.self.inside.values.items c.self.invariant.0 c.self.invariant.1)
