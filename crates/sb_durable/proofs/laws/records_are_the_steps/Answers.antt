use Rattle.sb_durable.proofs.Lives.{are_the_steps}
use Rattle.sb_durable.proofs.laws.records_are_the_steps.Goals as goal

pub returns : goal.returns
returns c = are_the_steps
