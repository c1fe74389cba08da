use Rattle.std.proofs.Common.{◌≡◌, List, take, IsTrue}
use Rattle.sb_durable.specs.Journal.{disk_of}
use Rattle.sb_durable.specs.ReplayedRecords.{KeepsUp}
use Rattle.sb_durable.proofs.Records.{EndsThese}
use Rattle.sb_durable.proofs.cell_restart.end_sessions.Given as goal

abbrev pub invariant-loop-session : goal.invariant-loop-session
invariant-loop-session g l =
    let disk = g.D.Disk in
    EndsThese l.tenant l.fn.cell (take l.session-index l.session-items) l.cell × KeepsUp disk.seen disk.may_leave (l.fn.cell, l.fn.recording) (l.cell, l.recording)
    × (l.recording.fault ≡ l.fn.recording.fault) × (IsTrue (disk.is_clean (disk_of l.recording.journal)) → IsTrue (disk.is_clean (disk_of l.fn.recording.journal)))
