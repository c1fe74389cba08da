use Rattle.std.proofs.Common.{◌≡◌, ◌+◌, ◌++◌, List, length, IsTrue}
use Rattle.sb_durable.specs.Journal.{contents_of, all_of}
use Rattle.sb_durable.specs.Records.{Entry}
use Rattle.sb_durable.specs.Replays.{PlaysAll}
use Rattle.sb_durable.specs.Restart.{AreRecords}
use Rattle.sb_durable.specs.RowReaders.{StaysRead, last_of}
use Rattle.sb_durable.specs.Segment.{BindsAll, IsBehind, Knows, device_of, head_of}
use Rattle.sb_durable.proofs.row_replay.play_segment.Given as goal

abbrev pub invariant-loop : goal.invariant-loop
invariant-loop g l =
    let disk = g.D.Disk in
    let own = last_of l.fn.reader in
    (batches : List (List Entry)) × PlaysAll g.S.Plays.plays l.fn.player (all_of batches) l.player × (l.records ≡ l.fn.records + length (all_of batches))
    × (BindsAll own → IsBehind (head_of own) (contents_of batches) l.place)
    × (IsTrue (disk.is_clean (device_of (last_of l.reader))) → (others : List (List Entry)) → AreRecords (all_of others) → Knows disk.seen own (contents_of others) → (back : List (List Entry)) × (others ≡ batches ++ back))
    × StaysRead disk.seen disk.may_leave disk.is_clean l.fn.reader l.reader
