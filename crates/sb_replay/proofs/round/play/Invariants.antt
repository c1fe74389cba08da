use Rattle.std.specs.List.{AllZip}
use Rattle.sb_replay.specs.Parts.{MovesIn}
use Rattle.sb_replay.proofs.round.play.Given as goal

abbrev pub invariant-loop-round : goal.invariant-loop-round
invariant-loop-round g l = AllZip (MovesIn l._round) l.fn.parts.items l.playing.items
