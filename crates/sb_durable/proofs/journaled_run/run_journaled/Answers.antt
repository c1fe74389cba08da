use Rattle.std.proofs.Common.{inl, inr, refl}
use Rattle.std.proofs.lemmas.Result.{on_ok_weaker}
use Rattle.sb_backup.specs.Bounds.{bound_of}
use Rattle.sb_durable.proofs.Journals.{ends_by, stops_behind, went_well}
use Rattle.sb_durable.proofs.journaled_run.run_journaled.Goals as goal

pub returns-in-true-clause-ok : goal.returns-in-true-clause-ok
returns-in-true-clause-ok g c =
    on_ok_weaker c.end_by.result (λ ended. went_well c.in-Ok-run_on.ended ended.0 c.in-Ok-run_on.ensures.answers ended.1) c.end_by.ensures.ok

pub returns-in-true-clause-err : goal.returns-in-true-clause-err
returns-in-true-clause-err g c =
    ends_by g.R.Source.fails g.R.Read.remaining g.W.Write.contents c.args.reader.now c.run_on.new.reader c.args.writer.now c.run_on.new.writer _ c.args.asked.run.tenants (bound_of c.args.asked.run) _ _
    c.in-Ok-run_on.ended c.end_by.result c.in-Ok-run_on.ensures.runs c.end_by.ensures.err

pub returns-in-Ok-run_on-clause-err : goal.returns-in-Ok-run_on-clause-err
returns-in-Ok-run_on-clause-err g c =
    stops_behind g.R.Source.fails g.R.Read.remaining g.W.Write.contents c.args.reader.now c.run_on.new.reader c.args.writer.now c.run_on.new.writer _ c.args.asked.run.tenants (bound_of c.args.asked.run) _ _
    c.in-Ok-run_on.ended _ c.in-Ok-run_on.ensures.runs (inl refl)
