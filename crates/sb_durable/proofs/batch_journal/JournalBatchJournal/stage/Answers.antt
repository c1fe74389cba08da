use Rattle.std.proofs.Common.{List, ℕ, subst, sym}
use Rattle.std.proofs.lemmas.Result.{on_ok_weaker, on_err_weaker}
use Rattle.sb_durable.proofs.batch_journal.JournalBatchJournal.stage.Goals as goal

pub returns-clause-ok : goal.returns-clause-ok
returns-clause-ok g c = on_ok_weaker c.stage.result (λ e base entries waiting has. (has.0, e base.head entries waiting has.1)) c.stage.ensures.ok

pub returns-clause-err : goal.returns-clause-err
returns-clause-err g c = on_err_weaker c.stage.result (λ e base entries waiting has. (has.0, e base.head entries waiting has.1)) c.stage.ensures.err

pub returns-clause-leaves : goal.returns-clause-leaves
returns-clause-leaves g c base files left = (left.0, subst (λ d. g.D.Disk.may_leave d left.0) c.stage.ensures.disk left.1, left.2)
