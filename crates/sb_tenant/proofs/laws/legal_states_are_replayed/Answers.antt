use Rattle.sb_tenant.proofs.ReplayLaws.{legal_states_are_replayed}
use Rattle.sb_tenant.proofs.laws.legal_states_are_replayed.Goals as goal

pub returns : goal.returns
returns c = legal_states_are_replayed
