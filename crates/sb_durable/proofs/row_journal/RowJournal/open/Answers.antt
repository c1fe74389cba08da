use Rattle.std.proofs.Common.{IsTrue, ap, refl, subst, ◌∙◌}
use Rattle.sb_durable.specs.Journal.{contents_of}
use Rattle.sb_durable.specs.RowJournal.{settings_of}
use Rattle.sb_durable.specs.RowReaders.{filed}
use Rattle.sb_durable.specs.Segment.{head_of}
use Rattle.sb_durable.proofs.RowJournals.{keep_now, opened_row}
use Rattle.sb_durable.proofs.row_journal.RowJournal.open.Goals as goal

pub returns-in-Ok-clause-ok : goal.returns-in-Ok-clause-ok
returns-in-Ok-clause-ok g c clean head older contents batches has bytes =
    let parts = opened_row (settings_of head) older (filed c.args.reader.last contents) (filed c.in-Ok.newest contents) (contents_of batches) c.in-Ok.ensures.head.0 refl has.row has.same_settings bytes in
    c.over.ensures.has head older contents batches (c.in-Ok.ensures.ok (subst (λ d. IsTrue (g.D.Disk.is_clean d)) c.over.ensures.disk clean) (settings_of head) older contents has) parts.0 parts.1 parts.2

pub returns-in-Ok-clause-newest : goal.returns-in-Ok-clause-newest
returns-in-Ok-clause-newest g c = ap (λ s. head_of s) c.over.ensures.newest ∙ c.in-Ok.ensures.head.0

pub returns-in-Ok-clause-whole : goal.returns-in-Ok-clause-whole
returns-in-Ok-clause-whole g c clean = c.in-Ok.ensures.whole (subst (λ d. IsTrue (g.D.Disk.is_clean d)) c.over.ensures.disk clean)

pub returns-in-Ok-clause-any_moment : goal.returns-in-Ok-clause-any_moment
returns-in-Ok-clause-any_moment g c clean only head older contents batches has bytes files are was file left =
    keep_now head batches older (filed c.args.reader.last contents) has.row has.same_settings bytes files are file
    (c.in-Ok.ensures.any_moment (subst (λ d. IsTrue (g.D.Disk.is_clean d)) c.over.ensures.disk clean) only (settings_of head) older contents has was file (subst (λ d. g.D.Disk.may_leave d file) c.over.ensures.disk left))

pub returns-in-Err-clause-any_moment_err : goal.returns-in-Err-clause-any_moment_err
returns-in-Err-clause-any_moment_err g c clean only head older contents batches has bytes files are was file left =
    keep_now head batches older (filed c.args.reader.last contents) has.row has.same_settings bytes files are file (c.in-Err.ensures.any_moment_err clean only (settings_of head) older contents has was file left)
