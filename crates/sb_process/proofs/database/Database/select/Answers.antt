use Rattle.std.proofs.Common.{◌∙◌, ℕ, List, Err, sym, ap, subst, refl, inl}
use Rattle.sb_value.specs.declared.lock.LockMode.{LockMode}
use Rattle.sb_value.specs.Locks.{with_locks}
use Rattle.sb_eval.specs.Seen.{no_transition}
use Rattle.sb_eval.specs.Statement.{query_locks}
use Rattle.sb_locks.specs.Held.{held}
use Rattle.sb_process.specs.Consider.{select_within}
use Rattle.sb_process.specs.Setting.{Progress, seen_with}
use Rattle.sb_process.specs.Request.{IsAnswer}
use Rattle.sb_process.specs.Represents.{Represents}
use Rattle.sb_process.proofs.Requests.{found_conflict, same_refusal, same_seen, with_more, refused_answer, granted_answer, after_refused, after_granted}
use Rattle.sb_process.proofs.database.Database.select.Goals as goal

pub returns-clause-selected : goal.returns-clause-selected
returns-clause-selected c = λ records clock origin setting progress r.
    let d = c.args.self.now in
    let list : List (ℕ × LockMode) = query_locks c.args.query.now in
    let no = c.in-Err.ensures.refused in
    let conflict = found_conflict r (c.as_slice.ensures.value ∙ c.in-Ok.ensures) no.1 in
    record {
      answer = inl (ap Err (same_refusal r no.0 c.in-Err.refusal no.2)
          ∙ sym (refused_answer setting progress list (λ p. select_within (seen_with setting no_transition p) c.args.query.now p.left) no.0 conflict));
      stands = inl (subst (λ q. Represents origin (record d { locks = c.request.new.locks }) c.args.session records clock setting q) (sym (after_refused setting progress list no.0 conflict))
          (subst (λ l. Represents origin (record d { locks = l }) c.args.session records clock setting progress) (sym c.in-Err.ensures.unchanged) r));
    }

pub returns-in-Ok-request-clause-selected : goal.returns-in-Ok-request-clause-selected
returns-in-Ok-request-clause-selected c = λ records clock origin setting progress r.
    let d = c.args.self.now in
    let list : List (ℕ × LockMode) = query_locks c.args.query.now in
    let listed = c.as_slice.ensures.value ∙ c.in-Ok.ensures in
    let none = found_conflict r listed c.in-Ok-request.ensures.granted in
    let taken = λ (s t : ℕ) (m : LockMode). c.in-Ok-request.ensures.taken s t m ∙ ap (λ l. with_locks (held d.locks) c.args.session l s t m) listed in
    let p : Progress = record progress { locks = with_locks progress.locks setting.who.session list } in
    let meant =
    granted_answer setting progress list (λ p. select_within (seen_with setting no_transition p) c.args.query.now p.left) none
    ∙ (λ i. select_within (same_seen r no_transition p refl i) c.args.query.now (sym r.left i)) in
    record {
      answer = subst (λ m. IsAnswer m c.rows.result) (sym meant) c.rows.ensures;
      stands = inl (subst (λ q. Represents origin (record d { locks = c.request.new.locks }) c.args.session records clock setting q) (sym (after_granted setting progress list none))
          (with_more r c.request.new.locks list taken));
    }
