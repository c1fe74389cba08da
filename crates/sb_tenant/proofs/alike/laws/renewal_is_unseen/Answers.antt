use Rattle.sb_tenant.proofs.Renewing.{unseen}
use Rattle.sb_tenant.proofs.alike.laws.renewal_is_unseen.Goals as goal

pub returns : goal.returns
returns c tenant bound =
    unseen tenant bound (c.alike_answer_alike.ensures tenant tenant bound) (c.states_are_well_formed.ensures tenant bound) (c.legal_states_are_replayed.ensures tenant bound)
    (c.entries_open_and_close.ensures.others tenant bound)
