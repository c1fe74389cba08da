use Rattle.std.proofs.lemmas.Result.{on_ok_weaker}
use Rattle.sb_backup.specs.Bounds.{bound_of}
use Rattle.sb_durable.proofs.Journals.{answers_journaled}
use Rattle.sb_durable.proofs.journaled_run.run_on.Goals as goal

pub returns-in-Ok-clause-runs : goal.returns-in-Ok-clause-runs
returns-in-Ok-clause-runs g c =
    let begun = c.in-Ok.ensures.cell in
    let goes = c.run_recorded.ensures.goes in
    record {
      records = begun.0;
      begun = c.in-Ok.cell;
      is_begun = begun.1;
      journal = c.restarted_cell.new.recording.journal;
      are = begun.2;
      stops = record { seen = goes.0; reads = goes.3; pieces = goes.1; left = goes.2; stops = goes.5; cell = c.run_recorded.new.cell; runs = goes.6 };
    }

pub returns-in-Ok-clause-answers : goal.returns-in-Ok-clause-answers
returns-in-Ok-clause-answers g c =
    let begun = c.in-Ok.ensures.cell in
    on_ok_weaker c.run_recorded.result
    (λ answers going. answers_journaled c.args.asked.tenants (bound_of c.args.asked) begun.0 c.in-Ok.cell c.run_recorded.new.cell _ _ _ begun.1 (answers going)) c.run_recorded.ensures.ok
