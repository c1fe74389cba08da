use Rattle.std.proofs.Common.{◌∙◌, ℕ, List, Err, inl, inr, refl, sym, ap, subst}
use Rattle.sb_value.specs.declared.lock.LockMode.{LockMode}
use Rattle.sb_value.specs.declared.lock.LockMode.TheVariants.{Write}
use Rattle.sb_value.specs.Locks.{with_locks}
use Rattle.sb_eval.specs.Statement.{statement_locks}
use Rattle.sb_eval.specs.Target.{target}
use Rattle.sb_locks.specs.Held.{Holders, held}
use Rattle.sb_process.specs.declared.database.Database.{Database}
use Rattle.sb_process.specs.Consider.{statement_effect}
use Rattle.sb_process.specs.Represents.{Represents}
use Rattle.sb_process.specs.Setting.{Progress}
use Rattle.sb_process.specs.Statement.{counted, with_effect_of}
use Rattle.sb_process.proofs.Leaving.{leaves-locked, leaves-all}
use Rattle.sb_process.proofs.Works.{work-with}
use Rattle.sb_process.proofs.Requests.{same_conflict, same_refusal, with_more, target_locked, refused_answer, granted_answer, after_refused, after_granted}
use Rattle.sb_process.proofs.database.Database.run.Goals as goal

pub returns-in-Ok-clause-leaves : goal.returns-in-Ok-clause-leaves
returns-in-Ok-clause-leaves g c = leaves-locked c.run_granted.ensures.leaves

pub returns-in-Err-clause-leaves : goal.returns-in-Err-clause-leaves
returns-in-Err-clause-leaves g c = leaves-locked (leaves-all 4096 refl)

pub run_granted-requires-clause-transaction : goal.run_granted-requires-clause-transaction
run_granted-requires-clause-transaction g c =
    let d : Database = c.args.self.now in
    let list : List (ℕ × LockMode) = statement_locks c.args.statement.now in
    let taken = c.in-Ok.ensures.taken in
    let some = c.requires.transaction in
    let p : Progress = record some.2 { locks = with_locks some.2.locks some.1.who.session list } in
    (some.0, some.1, p, with_more some.3 c.lock.new.locks list taken)

pub run_granted-requires-clause-locked : goal.run_granted-requires-clause-locked
run_granted-requires-clause-locked g c =
    let d : Database = c.args.self.now in
    let t : ℕ = target c.args.statement.now in
    c.in-Ok.ensures.taken c.args.viewer.now.session t Write ∙ target_locked (held d.locks) c.args.viewer.now.session c.args.statement.now

-- with the locks taken, what is meant is what the changes of the statement are
pub returns-in-Ok-clause-ran : goal.returns-in-Ok-clause-ran
returns-in-Ok-clause-ran g c = λ origin setting progress w.
    let list : List (ℕ × LockMode) = statement_locks c.args.statement.now in
    let none = same_conflict w.transaction list ∙ c.in-Ok.ensures.granted in
    let p : Progress = record progress { locks = with_locks progress.locks setting.who.session list } in
    let meant = granted_answer setting progress list (statement_effect setting c.args.viewer.now.tables.now c.args.statement.now) none in
    let after = after_granted setting progress list none in
    let stands = λ (q : Progress). Represents origin c.run_granted.new.self c.args.viewer.now.session (g.L.ChangeLog.records c.run_granted.new.log) (g.L.ChangeLog.clock c.run_granted.new.log) setting q in
    elim (c.run_granted.ensures.ran origin setting p (work-with w (with_more w.transaction c.lock.new.locks list c.in-Ok.ensures.taken) refl)) [
      | inl done ↦ inl (done.0 ∙ ap counted (sym meant), subst stands (λ i. with_effect_of (sym meant i) (sym after i)) done.1)
      | inr out ↦ inr (out.0, inl (subst stands (sym after) out.1))
    ]

-- a table conflicts, or memory ran out, and nothing has changed
pub returns-in-Err-clause-ran : goal.returns-in-Err-clause-ran
returns-in-Err-clause-ran g c = λ origin setting progress w.
    let stands = λ (l : Holders) (p : Progress). Represents origin (record c.args.self.now { locks = l }) c.args.viewer.now.session (g.L.ChangeLog.records c.args.log.now) (g.L.ChangeLog.clock c.args.log.now) setting p in
    let list : List (ℕ × LockMode) = statement_locks c.args.statement.now in
    let kept = subst (λ (l : Holders). stands l progress) (sym c.in-Err.ensures.unchanged) w.transaction in
    elim c.in-Err.ensures.refused [
      | inl none ↦ inr (ap Err none, inr kept)
      | inr locked ↦
          let conflict = same_conflict w.transaction list ∙ locked.1 in
          let meant = refused_answer setting progress list (statement_effect setting c.args.viewer.now.tables.now c.args.statement.now) locked.0 conflict in
          let after = after_refused setting progress list locked.0 conflict in
          inl (
            ap Err (same_refusal w.transaction locked.0 c.in-Err.refusal locked.2) ∙ ap counted (sym meant),
            subst (stands c.lock.new.locks) (λ i. with_effect_of (sym meant i) (sym after i)) kept,
          )
    ]
