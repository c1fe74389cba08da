use Rattle.sb_tenant.proofs.ReplayLaws.{trails_fix_states}
use Rattle.sb_tenant.proofs.laws.trails_fix_states.Goals as goal

pub returns : goal.returns
returns c = trails_fix_states
