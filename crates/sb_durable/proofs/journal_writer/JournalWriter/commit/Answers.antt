use Rattle.std.proofs.Common.{refl}
use Rattle.std.proofs.lemmas.Result.{on_ok_weaker, on_err_weaker}
use Rattle.sb_durable.proofs.Parts.{takes_all, takes_some}
use Rattle.sb_durable.proofs.journal_writer.JournalWriter.commit.Goals as goal

pub returns-clause-ok : goal.returns-clause-ok
returns-clause-ok g c =
    on_ok_weaker c.commit.result (λ has base records waiting old.
    let new = has base records waiting old in
    (takes_all g.B.BatchJournal _ _ base records waiting refl new (c.commit.ensures.any_moment base records waiting old), new)) c.commit.ensures.ok

pub returns-clause-err : goal.returns-clause-err
returns-clause-err g c =
    on_err_weaker c.commit.result (λ stays base records waiting old.
    takes_some g.B.BatchJournal _ _ base records waiting refl stays old (c.commit.ensures.any_moment base records waiting old)) c.commit.ensures.err
