use Rattle.std.proofs.Common.{◌≡◌, ◌⊎◌, [], ◌∷◌, Bool, true, Result, Ok, Err, refl, sym, subst}
use Rattle.sb_value.specs.declared.refusal.Refusal.{Refusal}
use Rattle.sb_value.specs.declared.refusal.Refusal.TheVariants.{NoMemory}
use Rattle.sb_check.specs.declared.tree.Action.{Action}
use Rattle.sb_process.specs.Consider.{run_actions}
use Rattle.sb_process.specs.Running.{ComesTo, Acts}
use Rattle.sb_process.specs.Setting.{Progress}
use Rattle.sb_process.proofs.Leaving.{leaves-all}
use Rattle.sb_process.proofs.Running.{change-ran, change-refused, runs-under_way}
use Rattle.sb_process.proofs.database.Database.run_action.Goals as goal

pub returns-in-Rollback-clause-leaves : goal.returns-in-Rollback-clause-leaves
returns-in-Rollback-clause-leaves g c = leaves-all 4096 refl

pub returns-in-Ok-clause-ran : goal.returns-in-Ok-clause-ran
returns-in-Ok-clause-ran g c = λ origin setting progress w.
    let session = c.args.viewer.now.session in
    let old = c.args.log.now in let new = c.run.new.log in
    let S = λ (q : Progress). ComesTo origin c.run.new.self session (g.L.ChangeLog.records new) (g.L.ChangeLog.clock new) setting progress q in
    let result : Result Bool Refusal = Ok true in
    subst (λ (a : Action). Acts S (run_actions setting c.args.viewer.now.tables.now (a ∷ []) progress) result ⊎ (result ≡ Err NoMemory)) (sym c.in-Change.is)
    (change-ran origin session setting progress c.args.self.now (g.L.ChangeLog.records old) (g.L.ChangeLog.clock old) w.transaction c.run.new.self (g.L.ChangeLog.records new)
    (g.L.ChangeLog.clock new) c.args.viewer.now.tables.now c.in-Change.statement c.run.result c.in-Ok.field-0 c.in-Ok.is (c.run.ensures.ran origin setting progress w))

pub returns-in-Err-clause-ran : goal.returns-in-Err-clause-ran
returns-in-Err-clause-ran g c = λ origin setting progress w.
    let session = c.args.viewer.now.session in
    let old = c.args.log.now in let new = c.run.new.log in
    let S = λ (q : Progress). ComesTo origin c.run.new.self session (g.L.ChangeLog.records new) (g.L.ChangeLog.clock new) setting progress q in
    let result : Result Bool Refusal = Err c.in-Err.refusal in
    subst (λ (a : Action). Acts S (run_actions setting c.args.viewer.now.tables.now (a ∷ []) progress) result ⊎ (result ≡ Err NoMemory)) (sym c.in-Change.is)
    (change-refused origin session setting progress c.args.self.now (g.L.ChangeLog.records old) (g.L.ChangeLog.clock old) w.transaction c.run.new.self (g.L.ChangeLog.records new)
    (g.L.ChangeLog.clock new) c.args.viewer.now.tables.now c.in-Change.statement c.run.result c.in-Err.refusal c.in-Err.is (c.run.ensures.ran origin setting progress w))

pub returns-in-Ok-clause-under_way : goal.returns-in-Ok-clause-under_way
returns-in-Ok-clause-under_way g c = λ origin setting progress w.
    let old = c.args.log.now in let new = c.run.new.log in
    runs-under_way origin c.args.viewer.now.session setting progress c.args.self.now (g.L.ChangeLog.records old) (g.L.ChangeLog.clock old) w.transaction c.run.new.self (g.L.ChangeLog.records new)
    (g.L.ChangeLog.clock new) c.args.viewer.now.tables.now c.in-Change.statement c.run.result (c.run.ensures.ran origin setting progress w)

pub returns-in-Err-clause-under_way : goal.returns-in-Err-clause-under_way
returns-in-Err-clause-under_way g c = λ origin setting progress w.
    let old = c.args.log.now in let new = c.run.new.log in
    runs-under_way origin c.args.viewer.now.session setting progress c.args.self.now (g.L.ChangeLog.records old) (g.L.ChangeLog.clock old) w.transaction c.run.new.self (g.L.ChangeLog.records new)
    (g.L.ChangeLog.clock new) c.args.viewer.now.tables.now c.in-Change.statement c.run.result (c.run.ensures.ran origin setting progress w)
