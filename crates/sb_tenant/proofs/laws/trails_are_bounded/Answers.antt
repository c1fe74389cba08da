use Rattle.sb_tenant.proofs.ReplayLaws.{trails_are_bounded}
use Rattle.sb_tenant.proofs.laws.trails_are_bounded.Goals as goal

pub returns : goal.returns
returns c = trails_are_bounded
