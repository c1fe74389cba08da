use Rattle.std.proofs.Common.{◌∙◌, List, [], ap, subst, sym, refl}
use Rattle.sb_value.specs.declared.id.Who.{Who}
use Rattle.sb_rawlog.specs.Sessions.{changes_by}
use Rattle.sb_tables.specs.Held.{Held, entries}
use Rattle.sb_process.specs.Made.{AreMade}
use Rattle.sb_process.proofs.Making.{entries-made}
use Rattle.sb_process.proofs.Settling.{same_released}
use Rattle.sb_process.specs.Made.{EachBelow}
use Rattle.sb_process.proofs.Numbers.{each-before}
use Rattle.sb_process.proofs.database.Database.rollback.Goals as goal

pub returns-clause-back : goal.returns-clause-back
returns-clause-back g c = λ origin setting progress r.
    let same = ap (λ (w : Who). changes_by w (g.L.ChangeLog.records c.args.log.now)) c.who-who.ensures in
    let back = c.undo_all.ensures.tables origin (subst (λ cs. AreMade origin cs c.args.self.now.tables) (sym (same ∙ r.changes)) r.made) in
    record {
      id = refl;
      none = ap (λ (w : Who). changes_by w (g.L.ChangeLog.records c.undo_all.new.log)) (sym c.who-who.ensures) ∙ c.undo_all.ensures.none;
      tables = entries-made origin [] c.undo_all.new.tables back ∙ r.base;
      made = back;
      locks = λ s t m. c.release.ensures s t m ∙ same_released _ progress.locks c.args.session r.locks s t m;
      sessions = λ s o other. (refl, refl, refl);
    }

pub returns-clause-numbers : goal.returns-clause-numbers
returns-clause-numbers g c = λ n h.
    let t = c.requires in
    let origin : List Held = t.0 in
    let cs = (t.2).changes in
    let same = ap (λ (w : Who). changes_by w (g.L.ChangeLog.records c.args.log.now)) c.who-who.ensures in
    let back = c.undo_all.ensures.tables origin (subst (λ l. AreMade origin l c.args.self.now.tables) (sym (same ∙ t.3.changes)) t.3.made) in
    subst (EachBelow n) (sym (entries-made origin [] c.undo_all.new.tables back))
    (each-before n cs (entries origin) (subst (EachBelow n) (entries-made origin cs c.args.self.now.tables t.3.made) h))
