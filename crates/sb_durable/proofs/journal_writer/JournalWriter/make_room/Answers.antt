use Rattle.std.proofs.Common.{[]}
use Rattle.std.proofs.lemmas.Result.{on_ok_weaker, on_err_weaker}
use Rattle.sb_durable.proofs.NotedTrails.{parts_none}
use Rattle.sb_durable.proofs.Parts.{on_err}
use Rattle.sb_durable.proofs.journal_writer.JournalWriter.make_room.Goals as goal

pub returns-in-true-clause-ok : goal.returns-in-true-clause-ok
returns-in-true-clause-ok g c = on_ok_weaker c.commit.result (λ takes. ∣ (λ base records waiting has. ([], (takes base records waiting has).0)) ∣₁) c.commit.ensures.ok

pub returns-in-true-clause-err : goal.returns-in-true-clause-err
returns-in-true-clause-err g c = on_err_weaker c.commit.result (λ takes. ∣ (λ base records waiting has. ([], takes base records waiting has)) ∣₁) c.commit.ensures.err

pub returns-in-false-clause-ok : goal.returns-in-false-clause-ok
returns-in-false-clause-ok g c = parts_none g.B.BatchJournal ⊥ c.args.self.now c.is_kept.ensures
