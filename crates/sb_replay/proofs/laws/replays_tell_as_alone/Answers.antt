use Rattle.sb_replay.proofs.Alone.{tells-as-alone}
use Rattle.sb_replay.proofs.laws.replays_tell_as_alone.Goals as goal

pub returns : goal.returns
returns c = tells-as-alone
