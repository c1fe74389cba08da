use Rattle.std.proofs.Common.{take}
use Rattle.std.specs.List.{All}
use Rattle.sb_replay.specs.Replay.{IsFullBy}
use Rattle.sb_replay.proofs.finishing.check_full.Given as goal

abbrev pub invariant-loop-sheet : goal.invariant-loop-sheet
invariant-loop-sheet l = All (IsFullBy l.trails) (take l.sheet-index l.sheets)
