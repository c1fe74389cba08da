use Rattle.sb_durable.proofs.Replaying.{make_the_state}
use Rattle.sb_durable.proofs.laws.records_make_the_state.Goals as goal

pub returns : goal.returns
returns c = make_the_state
