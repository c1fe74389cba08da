use Rattle.std.proofs.Common.{◌∙◌, sym}
use Rattle.starhost.proofs.Told.{at_success, summarizes}
use Rattle.starhost.proofs.run.run_on.Goals as goal

pub returns-clause-runs : goal.returns-clause-runs
returns-clause-runs g c = λ zero. at_success c.run_stream-ended.result (sym c.tell_run.ensures.status ∙ zero) c.run_stream-ended.ensures.ok

pub returns-clause-goes : goal.returns-clause-goes
returns-clause-goes g c = let goes = c.run_stream-ended.ensures.counts in (
  c.run_stream-ended.result,
  c.run_stream-ended.new.summary,
  c.tell_run.ensures.status,
  goes.0,
  goes.1,
  summarizes goes.0.pieces goes.0.replies.text c.new-summary.result c.run_stream-ended.new.summary c.new-summary.ensures goes.2,
  c.run_stream-ended.ensures.refused,
  c.tell_run.ensures.tells,
)
