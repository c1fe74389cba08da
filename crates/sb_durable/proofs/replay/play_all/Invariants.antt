use Rattle.std.proofs.Common.{◌≡◌, ◌++◌, List, [], length, IsTrue}
use Rattle.sb_durable.specs.Journal.{Has, IsAt, disk_of}
use Rattle.sb_durable.specs.Records.{Entry}
use Rattle.sb_durable.specs.declared.journal_header.Head.{Head}
use Rattle.sb_durable.specs.Replays.{PlaysAll}
use Rattle.sb_durable.specs.Restart.{AreRecords}
use Rattle.sb_durable.proofs.replay.play_all.Given as goal

abbrev pub invariant-loop : goal.invariant-loop
invariant-loop g l =
    let disk = g.D.Disk in
    (played : List Entry) × PlaysAll g.S.Plays.plays l.fn.player played l.player × (l.records ≡ length played)
    × (IsTrue (disk.is_clean (disk_of l.journal)) → (head : Head) (records : List Entry) → Has disk.seen disk.may_leave l.fn.journal head records [] → AreRecords records
    → (back : List Entry) × (records ≡ played ++ back) × AreRecords back × IsAt disk.seen disk.may_leave l.journal head l.place back × Has disk.seen disk.may_leave l.journal head records [])
