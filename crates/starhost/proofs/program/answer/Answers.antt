use Rattle.std.proofs.Common.{◌∙◌, refl, sym}
use Rattle.starhost.proofs.Runs.{err_digest, ok_digest, went_well}
use Rattle.starhost.proofs.Told.{at_success}
use Rattle.starhost.proofs.program.answer.Goals as goal

pub returns-in-Run-clause-succeeds : goal.returns-in-Run-clause-succeeds
returns-in-Run-clause-succeeds g c = rw c.in-Run.is (λ ok. c.run.ensures.succeeds ok)

pub returns-in-Run-clause-goes : goal.returns-in-Run-clause-goes
returns-in-Run-clause-goes g c = rw c.in-Run.is c.run.ensures.goes

pub returns-in-Serve-clause-succeeds : goal.returns-in-Serve-clause-succeeds
returns-in-Serve-clause-succeeds g c = rw c.in-Serve.is (λ ok. went_well g.E.Sink.refuses g.E.Write.contents c.args.errors.now.sink c.tell_end.new.errors c.serve-ended.result c.tell_end.result c.tell_end.ensures ok c.serve-ended.ensures.ok)

pub returns-in-Serve-clause-goes : goal.returns-in-Serve-clause-goes
returns-in-Serve-clause-goes g c = rw c.in-Serve.is (c.serve-ended.result, c.tell_end.ensures, refl, c.serve-ended.ensures.err)

pub returns-in-Replay-clause-succeeds : goal.returns-in-Replay-clause-succeeds
returns-in-Replay-clause-succeeds g c = rw c.in-Replay.is (λ ok. went_well g.E.Sink.refuses g.E.Write.contents c.args.errors.now.sink c.tell_end-in-Replay.new.errors c.replay-ended.result c.tell_end-in-Replay.result c.tell_end-in-Replay.ensures ok c.replay-ended.ensures.ok)

pub returns-in-Replay-clause-goes : goal.returns-in-Replay-clause-goes
returns-in-Replay-clause-goes g c = rw c.in-Replay.is (c.replay-ended.result, c.tell_end-in-Replay.ensures, c.replay-ended.ensures.err)

pub returns-in-Parse-clause-succeeds : goal.returns-in-Parse-clause-succeeds
returns-in-Parse-clause-succeeds g c = rw c.in-Parse.is (λ ok. at_success c.parse_lines-ended.result (sym c.tell_stream_end.ensures.status ∙ ok) c.parse_lines-ended.ensures.ok)

pub returns-in-Parse-clause-goes : goal.returns-in-Parse-clause-goes
returns-in-Parse-clause-goes g c = rw c.in-Parse.is (c.parse_lines-ended.result, c.tell_stream_end.ensures.status, c.parse_lines-ended.ensures.goes, c.parse_lines-ended.ensures.refused, c.tell_stream_end.ensures.tells)

pub returns-in-Dump-clause-succeeds : goal.returns-in-Dump-clause-succeeds
returns-in-Dump-clause-succeeds g c = rw c.in-Dump.is (λ ok. c.dump.ensures.succeeds ok)

pub returns-in-Dump-clause-goes : goal.returns-in-Dump-clause-goes
returns-in-Dump-clause-goes g c = rw c.in-Dump.is c.dump.ensures.goes

pub returns-in-Compact-clause-succeeds : goal.returns-in-Compact-clause-succeeds
returns-in-Compact-clause-succeeds g c = rw c.in-Compact.is (λ ok. tt)

pub returns-in-Compact-clause-goes : goal.returns-in-Compact-clause-goes
returns-in-Compact-clause-goes g c = rw c.in-Compact.is (c.of_journal.result, c.tell_end-in-Compact.ensures, refl, refl)

pub returns-in-Check-clause-succeeds : goal.returns-in-Check-clause-succeeds
returns-in-Check-clause-succeeds g c = rw c.in-Check.is (λ ok. went_well g.E.Sink.refuses g.E.Write.contents c.args.errors.now.sink c.tell_end-in-Check.new.errors c.check-ended.result c.tell_end-in-Check.result c.tell_end-in-Check.ensures ok c.check-ended.ensures)

pub returns-in-Check-clause-goes : goal.returns-in-Check-clause-goes
returns-in-Check-clause-goes g c = rw c.in-Check.is (c.check-ended.result, c.tell_end-in-Check.ensures, refl)

pub returns-in-Key-clause-succeeds : goal.returns-in-Key-clause-succeeds
returns-in-Key-clause-succeeds g c = rw c.in-Key.is (λ ok. went_well g.E.Sink.refuses g.E.Write.contents c.args.errors.now.sink c.tell_end-in-Key.new.errors c.of_digest.result c.tell_end-in-Key.result c.tell_end-in-Key.ensures ok (ok_digest _ c.tell_digest-ended.result c.of_digest.result c.of_digest.ensures c.tell_digest-ended.ensures))

pub returns-in-Key-clause-goes : goal.returns-in-Key-clause-goes
returns-in-Key-clause-goes g c = rw c.in-Key.is (c.of_digest.result, c.tell_end-in-Key.ensures, err_digest c.tell_digest-ended.result c.of_digest.result c.of_digest.ensures)
