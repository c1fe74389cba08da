use Rattle.std.proofs.Common.{inl, inr, refl}
use Rattle.sb_backup.specs.Bounds.{bound_of}
use Rattle.sb_backup.proofs.Loaded.{answers_loaded}
use Rattle.starhost.proofs.Runs.{err_journal, ok_journal, went_well}
use Rattle.starhost.proofs.run.run.Goals as goal

pub returns-in-Fresh-clause-succeeds : goal.returns-in-Fresh-clause-succeeds
returns-in-Fresh-clause-succeeds g c = rw c.in-Fresh.is (λ ok. c.run_new.ensures.runs ok)

pub returns-in-Fresh-clause-goes : goal.returns-in-Fresh-clause-goes
returns-in-Fresh-clause-goes g c = rw c.in-Fresh.is c.run_new.ensures.goes

-- on the tenants of files
pub returns-in-Ok-clause-succeeds : goal.returns-in-Ok-clause-succeeds
returns-in-Ok-clause-succeeds g c = rw c.in-Folder.is (λ zero.
    answers_loaded c.args.asked.run.tenants (bound_of c.args.asked.run) c.in-Ok.cell c.run_on.new.cell (g.R.Read.remaining c.args.reader.now) (g.W.Write.contents c.args.writer.now)
    (g.W.Write.contents c.run_on.new.writer) c.in-Ok.ensures.ok (c.run_on.ensures.runs zero))

pub returns-in-Ok-clause-goes : goal.returns-in-Ok-clause-goes
returns-in-Ok-clause-goes g c = let t = c.run_on.ensures.goes in rw c.in-Folder.is (
    inr (t.0, t.1, t.2, ((c.in-Ok.cell, c.run_on.new.cell, c.in-Ok.ensures.ok, t.3, t.4, t.5), t.6), t.7))

-- on those of a journal
pub returns-clause-succeeds : goal.returns-clause-succeeds
returns-clause-succeeds g c = rw c.in-Journal.is (λ ok. went_well g.E.Sink.refuses g.E.Write.contents c.args.errors.now.sink c.tell_end.new.errors c.of_journal.result c.tell_end.result c.tell_end.ensures ok (ok_journal _ c.run_journaled-ended.result c.of_journal.result c.of_journal.ensures c.run_journaled-ended.ensures.ok))

pub returns-clause-goes : goal.returns-clause-goes
returns-clause-goes g c = rw c.in-Journal.is (c.of_journal.result, c.tell_end.ensures, err_journal _ c.run_journaled-ended.result c.of_journal.result c.of_journal.ensures c.run_journaled-ended.ensures.err)
