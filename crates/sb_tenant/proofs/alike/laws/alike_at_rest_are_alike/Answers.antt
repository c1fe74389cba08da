use Rattle.sb_tenant.proofs.AlikeAtRest.{at_rest}
use Rattle.sb_tenant.proofs.alike.laws.alike_at_rest_are_alike.Goals as goal

pub returns : goal.returns
returns c first second bound =
    at_rest first second bound (λ tenant. c.states_are_well_formed.ensures tenant bound) (λ tenant. c.legal_states_are_replayed.ensures tenant bound)
    (λ tenant. c.entries_open_and_close.ensures.others tenant bound)
