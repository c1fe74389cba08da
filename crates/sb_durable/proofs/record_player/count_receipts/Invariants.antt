use Rattle.std.proofs.Common.{◌≡◌, ◌<◌, ◌^◌, take}
use Rattle.sb_durable.specs.Replays.{receipts_in}
use Rattle.sb_durable.proofs.record_player.count_receipts.Given as goal

abbrev pub invariant-loop-stub : goal.invariant-loop-stub
invariant-loop-stub l = record { counts : l.count ≡ receipts_in (take l.stub-index l.stubs); fits : l.count < 2 ^ 64 }
