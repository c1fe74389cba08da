use Rattle.std.proofs.Common.{[]}
use Rattle.sb_durable.proofs.NotedTrails.{ends_brought, parts_none, parts_then}
use Rattle.sb_durable.proofs.Parts.{on_err}
use Rattle.sb_durable.proofs.journal_writer.JournalWriter.bring_up.Goals as goal

pub returns-then-is_spent-clause-err : goal.returns-then-is_spent-clause-err
returns-then-is_spent-clause-err g c = parts_none g.B.BatchJournal _ c.args.self.now c.is_kept.ensures

pub returns-in_err-stage_all-clause-err : goal.returns-in_err-stage_all-clause-err
returns-in_err-stage_all-clause-err g c = on_err c.from_residual.result c.in_err-stage_all.ensures.err

pub returns-in_err-commit-clause-err : goal.returns-in_err-commit-clause-err
returns-in_err-commit-clause-err g c =
    on_err c.from_residual-in_err-commit.result
    (parts_then g.B.BatchJournal (g.B.BatchJournal.is_over c.commit.new.self.journal) _ _ _ c.in_ok-stage_all.ensures.ok
    ∣ (λ base records waiting has. ([], c.in_err-commit.ensures.err base records waiting has)) ∣₁)

pub returns-clause-ok : goal.returns-clause-ok
returns-clause-ok g c =
    parts_then g.B.BatchJournal ⊥ _ _ _ c.in_ok-stage_all.ensures.ok ∣ (λ base records waiting has. ([], (c.in_ok-commit.ensures.ok base records waiting has).0)) ∣₁

pub returns-clause-kept : goal.returns-clause-kept
returns-clause-kept g c = λ is_kept are. record {
  old = c.stage_all.new.self;
  new = c.commit.new.self;
  all = _;
  among = λ t has. has;
  brings = λ base records waiting has. let done = c.in_ok-commit.ensures.ok base records waiting has in ends_brought g.B.BatchJournal _ _ c.args.ends.now are (c.has_all-is_kept.ensures is_kept) base records waiting done.0 done.1;
}
