use Rattle.std.proofs.Common.{◌∙◌, ap, subst}
use Rattle.std.proofs.lemmas.List.Elements.{All-same}
use Rattle.sb_durable.specs.EntryReaders.{IsEndOf}
use Rattle.sb_durable.specs.RecordedTrails.{AreKept, ends_of}
use Rattle.sb_durable.specs.declared.noted_trail.TrailEnd.{TrailEnd}
use Rattle.sb_durable.proofs.recorder.Recorder.keep_some.Goals as goal

pub returns-in-true : goal.returns-in-true
returns-in-true g c kept =
    let read = c.in_ok-read.ensures c.in-true.is in
    let same = c.deref.ensures.value in
    subst (AreKept g.B.BatchJournal) (ap ends_of same ∙ read.0)
    (c.in_ok-is_kept.ensures kept (All-same (λ (end : TrailEnd). IsEndOf end.tenant end.reach) _ _ same read.1))
