use Rattle.sb_tenant.proofs.MemoryLaws.{fine-step}
use Rattle.sb_tenant.proofs.laws.steps_have_memory.Goals as goal

pub returns : goal.returns
returns c = fine-step
