use Rattle.std.proofs.Common.{[], ap, sym, ◌∙◌, subst, refl, IsTrue}
use Rattle.sb_durable.specs.Segment.{HasAll, device_of, head_of}
use Rattle.sb_durable.proofs.RowJournals.{turned_has, turned_keep}
use Rattle.sb_durable.proofs.row_journal.RowJournal.turn.Goals as goal

pub returns-in-Ok-clause-ok : goal.returns-in-Ok-clause-ok
returns-in-Ok-clause-ok g c clean head older entries waiting has =
    let disk = g.D.Disk in
    let after = c.replace-full.ensures.after in
    turned_has disk.seen disk.may_leave c.args.self.now head older entries waiting has _
    (subst (λ s. HasAll disk.seen disk.may_leave s []) (sym after) (c.in-Ok.ensures.ok (subst (λ s. IsTrue (disk.is_clean (device_of s))) after clean)))
    (ap (λ s. head_of s) after ∙ c.in-Ok.ensures.head) refl

-- while the next segment is begun
pub returns-in-Ok-clause-any_moment : goal.returns-in-Ok-clause-any_moment
returns-in-Ok-clause-any_moment g c clean only unbegun head older entries waiting has files are file left =
    let disk = g.D.Disk in
    let after = c.replace-full.ensures.after in
    turned_keep disk.seen disk.may_leave c.args.self.now head older entries waiting has files are file
    (c.in-Ok.ensures.any_moment (subst (λ s. IsTrue (disk.is_clean (device_of s))) after clean) only unbegun file (subst (λ s. disk.may_leave (device_of s) file) after left))

pub returns-in-Err-clause-any_moment_err : goal.returns-in-Err-clause-any_moment_err
returns-in-Err-clause-any_moment_err g c clean only unbegun head older entries waiting has files are file left =
    turned_keep g.D.Disk.seen g.D.Disk.may_leave c.args.self.now head older entries waiting has files are file (c.in-Err.ensures.any_moment_err clean only unbegun file left)
