use Rattle.std.proofs.Common.{◌∙◌, ℕ, List, Option, Result, Ok, Err, inl, inr, refl, sym, ap, subst}
use Rattle.sb_value.specs.declared.change.Change.{Change}
use Rattle.sb_value.specs.declared.refusal.Refusal.{Refusal}
use Rattle.sb_eval.specs.Laws.{AreMakeable}
use Rattle.sb_eval.specs.Target.{target}
use Rattle.sb_tables.specs.Held.{entries}
use Rattle.sb_process.specs.PreparedChanges.{Changes}
use Rattle.sb_process.specs.Represents.{who_in}
use Rattle.sb_process.specs.View.{seen_by}
use Rattle.sb_process.proofs.Growing.{tables_are}
use Rattle.sb_process.proofs.Making.{number-entries}
use Rattle.sb_process.proofs.Leaving.{leaves-all, leaves-charged}
use Rattle.sb_process.proofs.Effects.{effect-same, made-charged, not-made}
use Rattle.sb_process.proofs.Settling.{sound-made}
use Rattle.sb_process.proofs.database.Database.run_granted.Goals as goal

pub make_all-requires-clause-numbered : goal.make_all-requires-clause-numbered
make_all-requires-clause-numbered g c =
    let some = c.requires.transaction in
    (sound-made c.changes_keep_places.ensures some.0 some.2.changes c.args.self.now.tables some.3.made).0

pub make_all-requires-clause-stored : goal.make_all-requires-clause-stored
make_all-requires-clause-stored g c =
    let some = c.requires.transaction in
    (sound-made c.changes_keep_places.ensures some.0 some.2.changes c.args.self.now.tables some.3.made).1

pub make_all-requires-clause-makeable : goal.make_all-requires-clause-makeable
make_all-requires-clause-makeable g c =
    let some = c.requires.transaction in
    let sound = sound-made c.changes_keep_places.ensures some.0 some.2.changes c.args.self.now.tables some.3.made in
    let t : ℕ = target c.args.statement.now in
    subst (λ (n : ℕ). AreMakeable (entries c.args.self.now.tables) (who_in c.args.self.now c.args.viewer.now.session) n c.in-Ok.changes.items) (sym c.target.ensures)
    (c.changes_are_proper.ensures (seen_by c.args.self.now.tables c.args.viewer.now.tables.now (who_in c.args.self.now c.args.viewer.now.session)) c.args.statement.now c.in-Ok.changes.items
    (number-entries c.args.self.now.tables t ∙ c.requires.there) (tables_are c.args.self.now.tables t sound.1) c.in-Ok.ensures.ok.0)

-- the changes are made, and so much is left
pub returns-in-Ok-make_all-clause-ran : goal.returns-in-Ok-make_all-clause-ran
returns-in-Ok-make_all-clause-ran g c = λ origin setting progress w.
    let meant = effect-same w c.args.viewer.now.tables.now c.args.statement.now ∙ c.in-Ok.ensures.ok.1 in
    made-charged origin c.make_all.new.self c.args.viewer.now.session c.in-Ok.changes.items c.in-Ok.left c.in-Ok-make_all.count _ _ setting progress
    meant (subst (λ r. Changes origin c.make_all.new.self c.args.viewer.now.session (Ok (c.in-Ok.changes.items, progress.left)) r (g.L.ChangeLog.records c.make_all.new.log) (g.L.ChangeLog.clock c.make_all.new.log) setting progress)
    c.in-Ok-make_all.is (c.make_all.ensures.made origin setting progress w))

pub returns-in-Err-make_all-clause-ran : goal.returns-in-Err-make_all-clause-ran
returns-in-Err-make_all-clause-ran g c = λ origin setting progress w.
    not-made origin c.make_all.new.self c.args.viewer.now.session c.in-Ok.changes.items c.in-Err-make_all.refusal _ _ setting progress _
    (subst (λ r. Changes origin c.make_all.new.self c.args.viewer.now.session (Ok (c.in-Ok.changes.items, progress.left)) r (g.L.ChangeLog.records c.make_all.new.log) (g.L.ChangeLog.clock c.make_all.new.log) setting progress)
    c.in-Err-make_all.is (c.make_all.ensures.made origin setting progress w))

pub returns-in-Ok-make_all-clause-leaves : goal.returns-in-Ok-make_all-clause-leaves
returns-in-Ok-make_all-clause-leaves g c = leaves-charged c.in-Ok.left c.make_all.ensures.leaves

pub returns-in-Err-clause-ran : goal.returns-in-Err-clause-ran
returns-in-Err-clause-ran g c = λ origin setting progress w.
    let same = effect-same w c.args.viewer.now.tables.now c.args.statement.now in
    elim c.in-Err.ensures.err [
      | inl e ↦ subst
          (λ (meant : Result (List Change × Option ℕ) Refusal).
          Changes origin c.args.self.now c.args.viewer.now.session meant (Err c.in-Err.refusal) (g.L.ChangeLog.records c.args.log.now) (g.L.ChangeLog.clock c.args.log.now) setting progress)
          (sym (same ∙ e)) (inl (refl, w.transaction))
      | inr e ↦ inr (ap Err e, w.transaction)
    ]

pub returns-in-Err-clause-leaves : goal.returns-in-Err-clause-leaves
returns-in-Err-clause-leaves g c = leaves-all 4096 refl
