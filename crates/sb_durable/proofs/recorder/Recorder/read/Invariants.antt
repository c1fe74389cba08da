use Rattle.std.specs.Prelude.{◌≡◌, IsTrue, take}
use Rattle.std.specs.List.{All}
use Rattle.sb_durable.specs.EntryReaders.{IsEndOf}
use Rattle.sb_durable.specs.RecordedTrails.{ends_of}
use Rattle.sb_durable.specs.declared.noted_trail.TrailEnd.{TrailEnd}
use Rattle.sb_durable.proofs.recorder.Recorder.read.Given as goal

abbrev pub invariant-loop-tenant : goal.invariant-loop-tenant
invariant-loop-tenant g l =
    IsTrue l.read.are_whole → (ends_of l.read.ends.items ≡ take l.tenant-index l.tenants) × All (λ (end : TrailEnd). IsEndOf end.tenant end.reach) l.read.ends.items
