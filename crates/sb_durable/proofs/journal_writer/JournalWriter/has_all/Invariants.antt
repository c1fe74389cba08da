use Rattle.std.specs.Prelude.{◌≡◌, Some, slice_get, take}
use Rattle.std.specs.List.{All}
use Rattle.sb_durable.specs.declared.noted_trail.TrailEnd.{TrailEnd}
use Rattle.sb_durable.proofs.journal_writer.JournalWriter.has_all.Given as goal

abbrev pub invariant-loop-end : goal.invariant-loop-end
invariant-loop-end g l = All (λ (end : TrailEnd). slice_get l.self.recorded.items end.tenant ≡ Some end.reach) (take l.end-index l.ends)
