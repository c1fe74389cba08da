use Rattle.std.proofs.Common.{◌≡◌, List, [], IsTrue}
use Rattle.sb_durable.specs.Journal.{Has, disk_of}
use Rattle.sb_durable.specs.Records.{Entry}
use Rattle.sb_durable.specs.declared.journal_header.Head.{Head}
use Rattle.sb_durable.specs.Restart.{AreRecords, Tells}
use Rattle.sb_durable.proofs.Records.{Midway}
use Rattle.sb_durable.proofs.cell_restart.restart.Given as goal

abbrev pub invariant-loop-tenant : goal.invariant-loop-tenant
invariant-loop-tenant g l =
    let disk = g.D.Disk in
    (records : List Entry) × Midway l.fn.cell records l.tenant l.cell
    × (IsTrue (disk.is_clean (disk_of l.recording.journal)) → (head : Head) (there : List Entry) → Has disk.seen disk.may_leave l.fn.recording.journal head there [] → AreRecords there
    → (records ≡ there) × Tells disk.seen disk.may_leave l.recording.journal head l.cell)
    × (l.recording.fault ≡ l.fn.recording.fault)
