use Rattle.std.proofs.Common.{◌∙◌, Err, Ok, sym}
use Rattle.std.proofs.lemmas.Bool.{false≢true}
use Rattle.sb_backup.proofs.Called.{has_answer, own_call}
use Rattle.sb_backup.proofs.host_loader.call.Goals as goal

-- there is no reply
pub returns-in-Err-clause-err : goal.returns-in-Err-clause-err
returns-in-Err-clause-err g c = (Err c.in-Err.field-0, tt, (c.in-Err.ensures.err.1, c.in-Err.ensures.err.0))

-- the newest answer is the step's
pub unreachable-requires : goal.unreachable-requires
unreachable-requires g c = absurd (has_answer (g.S.Calling.seen c.args.session.now) (g.S.Calling.seen c.step.new.self) c.args.line.now c.in-Ok.ensures.ok c.in-None.ensures)

pub returns-in-true-clause-ok : goal.returns-in-true-clause-ok
returns-in-true-clause-ok g c =
    (c.in-Some.answer.now, c.is_taken.ensures.0 c.in-true.is, own_call (g.S.Calling.seen c.args.session.now) (g.S.Calling.seen c.step.new.self) c.args.line.now c.in-Some.answer.now c.in-Ok.ensures.ok c.in-Some.ensures)

-- the reply isn't one to a script's line
pub returns-in-false-clause-err : goal.returns-in-false-clause-err
returns-in-false-clause-err g c = (
  Ok c.in-Some.answer.now,
  λ taken. false≢true (sym c.in-false.is ∙ c.is_taken.ensures.1 taken),
  own_call (g.S.Calling.seen c.args.session.now) (g.S.Calling.seen c.step.new.self) c.args.line.now c.in-Some.answer.now c.in-Ok.ensures.ok c.in-Some.ensures,
)
