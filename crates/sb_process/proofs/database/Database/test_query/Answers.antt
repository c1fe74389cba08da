use Rattle.std.proofs.Common.{◌≡◌, ◌∙◌, ◌⊎◌, ℕ, Bool, List, Result, Err, sym, ap, subst, refl, inl}
use Rattle.sb_value.specs.declared.lock.LockMode.{LockMode}
use Rattle.sb_value.specs.declared.refusal.Refusal.{Refusal}
use Rattle.sb_value.specs.declared.refusal.Refusal.TheVariants.{NoMemory}
use Rattle.sb_value.specs.Locks.{with_locks}
use Rattle.sb_eval.specs.Statement.{query_locks}
use Rattle.sb_locks.specs.Held.{held}
use Rattle.sb_process.specs.declared.database.Database.{Database}
use Rattle.sb_process.specs.Consider.{test_query}
use Rattle.sb_process.specs.Represents.{Represents}
use Rattle.sb_process.specs.Setting.{Progress, seen_with}
use Rattle.sb_process.specs.Running.{ComesTo, Tests}
use Rattle.sb_process.proofs.Requests.{found_conflict, same_refusal, with_more, same_session, refused_answer, granted_answer}
use Rattle.sb_process.proofs.Running.{released-with, comes-charged, tests-map}
use Rattle.sb_process.proofs.database.Database.test_query.Goals as goal

-- with the locks of the query
pub returns-in-Ok-request-clause-under_way : goal.returns-in-Ok-request-clause-under_way
returns-in-Ok-request-clause-under_way c = λ records clock origin setting progress r.
    let d = c.args.self.now in
    let list : List (ℕ × LockMode) = query_locks c.args.query.now in
    let listed = c.as_slice.ensures.value ∙ c.in-Ok.ensures in
    let taken = λ (s t : ℕ) (m : LockMode). c.in-Ok-request.ensures.taken s t m ∙ ap (λ l. with_locks (held d.locks) c.args.viewer.now.session l s t m) listed in
    let p : Progress = record progress { locks = with_locks progress.locks setting.who.session list } in
    let more = with_more r c.request.new.locks list taken in (
      record p { left = c.test_granted.new.self.left },
      record {
        stands = c.test_granted.ensures.left records clock origin setting p more;
        locks = released-with progress.locks setting.who.session c.args.viewer.now.session list (same_session r);
      },
    )

-- the test is that of the query, with its locks
pub returns-in-Ok-request-clause-tested : goal.returns-in-Ok-request-clause-tested
returns-in-Ok-request-clause-tested c = λ records clock origin setting progress r.
    let d = c.args.self.now in
    let list : List (ℕ × LockMode) = query_locks c.args.query.now in
    let listed = c.as_slice.ensures.value ∙ c.in-Ok.ensures in
    let taken = λ (s t : ℕ) (m : LockMode). c.in-Ok-request.ensures.taken s t m ∙ ap (λ l. with_locks (held d.locks) c.args.viewer.now.session l s t m) listed in
    let none = found_conflict r listed c.in-Ok-request.ensures.granted in
    let p : Progress = record progress { locks = with_locks progress.locks setting.who.session list } in
    let mid : Database = record d { locks = c.request.new.locks } in
    let more : Represents origin mid c.args.viewer.now.session records clock setting p = with_more r c.request.new.locks list taken in
    let come : ComesTo origin mid c.args.viewer.now.session records clock setting progress p =
    record { stands = more; locks = released-with progress.locks setting.who.session c.args.viewer.now.session list (same_session r) } in
    let R = λ (q : Progress). Represents origin c.test_granted.new.self c.args.viewer.now.session records clock setting q in
    let S = λ (q : Progress). ComesTo origin c.test_granted.new.self c.args.viewer.now.session records clock setting progress q in
    let meant = granted_answer setting progress list (λ p. test_query (seen_with setting c.args.viewer.now.tables.now p) c.args.query.now p) none in
    let goes = λ (q : Progress) (stands : R q).
    subst (λ (new : Database). ComesTo origin new c.args.viewer.now.session records clock setting progress q) (sym c.test_granted.ensures.only_left)
    (comes-charged origin c.args.viewer.now.session setting progress p mid c.test_granted.new.self.left records clock come q
    (subst (λ (new : Database). Represents origin new c.args.viewer.now.session records clock setting q) c.test_granted.ensures.only_left stands)) in
    subst (λ (m : Result (Bool × Progress) Refusal). Tests S m c.test_granted.result ⊎ (c.test_granted.result ≡ Err NoMemory)) (sym meant)
    (tests-map R S goes _ c.test_granted.result (c.test_granted.ensures.tested records clock origin setting p more))

pub returns-clause-tested : goal.returns-clause-tested
returns-clause-tested c = λ records clock origin setting progress r.
    let list : List (ℕ × LockMode) = query_locks c.args.query.now in
    let no = c.in-Err.ensures.refused in
    let conflict = found_conflict r (c.as_slice.ensures.value ∙ c.in-Ok.ensures) no.1 in
    let S = λ (q : Progress). ComesTo origin (record c.args.self.now { locks = c.request.new.locks }) c.args.viewer.now.session records clock setting progress q in
    let result : Result Bool Refusal = Err c.in-Err.refusal in
    inl (subst (λ (m : Result (Bool × Progress) Refusal). Tests S m result)
    (sym (refused_answer setting progress list (λ p. test_query (seen_with setting c.args.viewer.now.tables.now p) c.args.query.now p) no.0 conflict))
    (ap Err (same_refusal r no.0 c.in-Err.refusal no.2)))
