use Rattle.std.proofs.Common.{◌≡◌, Some, slice_get, arith}
use Rattle.std.proofs.lemmas.List.Elements.{All-more}
use Rattle.sb_durable.specs.declared.noted_trail.TrailEnd.{TrailEnd}
use Rattle.sb_durable.proofs.journal_writer.JournalWriter.has_all.Goals as goal

pub loop-end-preserved : goal.loop-end-preserved
loop-end-preserved g c =
    All-more (λ (end : TrailEnd). slice_get c.args.self.now.recorded.items end.tenant ≡ Some end.reach) c.args.ends.now c.loop-end.end-index _
    (omega (arith, c.loop-end-test.true)) c.loop-end.invariant (c.is_recorded_to.ensures.0 c.in-true.is)
