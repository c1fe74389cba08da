use Rattle.std.proofs.Common.{◌≡◌, ◌⊎◌, Bool, Result, Err, inl, refl, sym, subst}
use Rattle.sb_value.specs.declared.refusal.Refusal.{Refusal}
use Rattle.sb_value.specs.declared.refusal.Refusal.TheVariants.{NoMemory}
use Rattle.sb_process.specs.Represents.{Represents}
use Rattle.sb_process.specs.Running.{Tests}
use Rattle.sb_process.specs.Setting.{Progress}
use Rattle.sb_process.proofs.Effects.{test-charged, test-refused}
use Rattle.sb_process.proofs.Requests.{with_left}
use Rattle.sb_process.proofs.Running.{tests-rows}
use Rattle.sb_process.proofs.database.Database.test_granted.Goals as goal

-- the work is taken of what is left, and then the query is evaluated
pub returns-in-Ok-clause-tested : goal.returns-in-Ok-clause-tested
returns-in-Ok-clause-tested c = λ records clock origin setting progress r.
    let S = λ (q : Progress). Represents origin (record c.args.self.now { left = c.in-Ok.left }) c.args.viewer.now.session records clock setting q in
    let meant = test-charged r c.args.viewer.now.tables.now c.args.query.now c.in-Ok.left c.in-Ok.ensures in
    subst (λ (m : Result (Bool × Progress) Refusal). Tests S m c.has_row.result ⊎ (c.has_row.result ≡ Err NoMemory)) (sym meant)
    (tests-rows S (record progress { left = c.in-Ok.left }) _ c.has_row.result (with_left r c.in-Ok.left) c.has_row.ensures)

pub returns-in-Ok-clause-left : goal.returns-in-Ok-clause-left
returns-in-Ok-clause-left c = λ records clock origin setting progress r. with_left r c.in-Ok.left

-- too little is left, and nothing has changed
pub returns-in-Err-clause-tested : goal.returns-in-Err-clause-tested
returns-in-Err-clause-tested c = λ records clock origin setting progress r.
    let S = λ (q : Progress). Represents origin c.args.self.now c.args.viewer.now.session records clock setting q in
    let result : Result Bool Refusal = Err c.in-Err.refusal in
    inl (subst (λ (m : Result (Bool × Progress) Refusal). Tests S m result) (sym (test-refused r c.args.viewer.now.tables.now c.args.query.now c.in-Err.refusal c.in-Err.ensures)) refl)

pub returns-in-Err-clause-left : goal.returns-in-Err-clause-left
returns-in-Err-clause-left c = λ records clock origin setting progress r. with_left r c.args.self.now.left
