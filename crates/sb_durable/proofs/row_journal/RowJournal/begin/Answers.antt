use Rattle.std.proofs.Common.{[], ◌∷◌, List, ℕ, IsTrue, ap, refl, subst, ◌∙◌}
use Rattle.sb_durable.specs.Head.{Head as SegmentHead}
use Rattle.sb_durable.proofs.RowJournals.{keep_first}
use Rattle.sb_durable.proofs.row_journal.RowJournal.begin.Goals as goal

-- the head of a journal's first segment
abbrev first_head : List ℕ → SegmentHead
first_head settings = record { number = 1; before = 0; settings = settings }

pub returns-in-Ok-clause-ok : goal.returns-in-Ok-clause-ok
returns-in-Ok-clause-ok g c clean =
    let all = c.in-Ok.ensures.ok (subst (λ d. IsTrue (g.D.Disk.is_clean d)) c.over.ensures.disk clean) in
    let same = ap (λ (h : SegmentHead). h.settings) c.in-Ok.ensures.head ∙ c.settings_bytes-settings.ensures in
    c.over.ensures.has c.args.head [] [] [] all (all.knows.stands.fits, tt, tt) (same, tt) refl

pub returns-in-Ok-clause-any_moment : goal.returns-in-Ok-clause-any_moment
returns-in-Ok-clause-any_moment g c clean only unbegun file left =
    keep_first c.args.head (first_head c.settings_bytes-settings.result) file c.settings_bytes-settings.ensures
    (c.in-Ok.ensures.any_moment (subst (λ d. IsTrue (g.D.Disk.is_clean d)) c.over.ensures.disk clean) only unbegun file (subst (λ d. g.D.Disk.may_leave d file) c.over.ensures.disk left))

pub returns-in-Err-clause-any_moment_err : goal.returns-in-Err-clause-any_moment_err
returns-in-Err-clause-any_moment_err g c clean only unbegun file left =
    keep_first c.args.head (first_head c.settings_bytes-settings.result) file c.settings_bytes-settings.ensures (c.in-Err.ensures.any_moment_err clean only unbegun file left)
