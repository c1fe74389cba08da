use Rattle.sb_tenant.proofs.MemoryLaws.{are_numbered}
use Rattle.sb_tenant.proofs.laws.answers_are_numbered.Goals as goal

pub returns : goal.returns
returns c = are_numbered
