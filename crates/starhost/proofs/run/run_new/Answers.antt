use Rattle.std.proofs.Common.{◌∙◌, sym}
use Rattle.sb_backup.specs.Bounds.{bound_of}
use Rattle.starhost.proofs.Told.{at_success, goes-fresh}
use Rattle.starhost.proofs.run.run_new.Goals as goal

pub returns-clause-runs : goal.returns-clause-runs
returns-clause-runs g c = λ zero. at_success c.run_fresh-ended.result (sym c.tell_run.ensures.status ∙ zero) c.run_fresh-ended.ensures.ok

pub returns-clause-goes : goal.returns-clause-goes
returns-clause-goes g c = (
  c.run_fresh-ended.result,
  c.run_fresh-ended.new.summary,
  c.tell_run.ensures.status,
  goes-fresh g.R.Source.fails g.R.Read.remaining g.W.Sink.refuses g.W.Write.contents c.args.asked.tenants (bound_of c.args.asked) c.args.reader.now c.run_fresh-ended.new.reader c.args.writer.now c.run_fresh-ended.new.writer
      c.run_fresh-ended.result c.new-summary.result c.run_fresh-ended.new.summary c.new-summary.ensures c.run_fresh-ended.ensures.counts c.run_fresh-ended.ensures.refused,
  c.tell_run.ensures.tells,
)
