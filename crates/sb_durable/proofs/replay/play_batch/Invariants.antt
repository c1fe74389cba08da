use Rattle.std.proofs.Common.{◌≡◌, ◌+◌, ◌++◌, List, length}
use Rattle.sb_durable.specs.Records.{Entry, bytes_of}
use Rattle.sb_durable.specs.Replays.{PlaysAll}
use Rattle.sb_durable.specs.Restart.{AreRecords}
use Rattle.sb_durable.proofs.replay.play_batch.Given as goal

abbrev pub invariant-loop-left : goal.invariant-loop-left
invariant-loop-left g l =
    (played : List Entry) × PlaysAll g.S.Plays.plays l.fn.player played l.player × (l.records ≡ l.fn.records + length played)
    × ((entries : List Entry) → AreRecords entries → l.batch ≡ bytes_of entries → (back : List Entry) × (entries ≡ played ++ back) × AreRecords back × (l.left ≡ bytes_of back))
    × (l.batch ≡ bytes_of played ++ l.left)

abbrev pub decreases-loop-left : goal.decreases-loop-left
decreases-loop-left g l = length l.left
