-- what was printed before stands in front
use Rattle.std.proofs.Common.{◌≡◌, ◌++◌, ℕ, List, length, take, refl, ap, ◌∙◌, append_assoc}
use Rattle.std.proofs.lemmas.List.{take_at}
use Rattle.std.proofs.lemmas.Result.{err_from_is_err_and}
use Rattle.sb_value.proofs.literal.print_text.Goals as goal
use Rattle.sb_value.proofs.literal.print_text.Goals.{then-byte-eq-QUOTE+in_ok-push-2, else-byte-eq-QUOTE}

kept : (old more new : List ℕ) → new ≡ old ++ more → take (length old) new ≡ old
kept old more new e = rw e (take_at old more (length old) refl)

kept_more : (old more last out new : List ℕ) → out ≡ old ++ more → new ≡ out ++ last → take (length old) new ≡ old
kept_more old more last out new e more_is = kept old (more ++ last) new (more_is ∙ ap (λ l. l ++ last) e ∙ append_assoc old more last)

pub returns-in_err-push-2-clause-err : goal.returns-in_err-push-2-clause-err
returns-in_err-push-2-clause-err c =
    let p = err_from_is_err_and c.from_residual-in_err-push-2.result c.from_residual-in_err-push-2.ensures.1 in
    rw p.1 (kept _ _ _ (c.in_err-push-2.ensures.items ∙ c.loop-byte.invariant))

pub returns-in_err-push-3-clause-err : goal.returns-in_err-push-3-clause-err
returns-in_err-push-3-clause-err c =
    let p = err_from_is_err_and c.from_residual-in_err-push-3.result c.from_residual-in_err-push-3.ensures.1 in
    let same = c.in_err-push-3.ensures.items in
    rw p.1 (elim c.if-byte-eq-QUOTE.branch [
      | then-byte-eq-QUOTE+in_ok-push-2 w ↦ kept_more _ _ _ _ _ c.loop-byte.invariant (same ∙ ap (λ v. v.items) w.out-is ∙ w.in_ok-push-2.ensures.items)
      | else-byte-eq-QUOTE w ↦ kept _ _ _ (same ∙ ap (λ v. v.items) w.out-is ∙ c.loop-byte.invariant)
    ])

pub returns-in_err-push-4-clause-err : goal.returns-in_err-push-4-clause-err
returns-in_err-push-4-clause-err c =
    let p = err_from_is_err_and c.from_residual-in_err-push-4.result c.from_residual-in_err-push-4.ensures.1 in
    rw p.1 (kept _ _ _ (c.in_err-push-4.ensures.items ∙ c.loop-byte.invariant))
