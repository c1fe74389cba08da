-- Work that is charged, or is too much.
use Rattle.std.proofs.Common.{◌≡◌, ◌∙◌, ◌⊎◌, ℕ, zero, suc, ◌*◌, ◌<◌, ◌≤◌, min, inl, inr, arith, zero-mul, mul_comm, le-mul_of_pos_right, Bool, true, false, cond, nat_lt, ◌-◌, List, length, Option, Some, None, Result, Ok, Err, refl, sym, ap, subst}
use Rattle.std.proofs.lemmas.Bool.{ltb-true, ltb-false}
use Rattle.sb_value.specs.declared.refusal.Refusal.{Refusal}
use Rattle.sb_value.specs.declared.refusal.Refusal.TheVariants.{TooBig}
use Rattle.sb_value.specs.declared.change.Change.{Change}
use Rattle.sb_process.specs.Budget.{with_work, within_budget}

module _ {A : Type 0} (work : ℕ) (next : Option ℕ → Result A Refusal) where
  -- where enough is left, the rest is done with what is left then
  pub charged : (left rest : Option ℕ) → with_work work left Ok ≡ Ok rest → with_work work left next ≡ next rest
  charged None rest e = ap next (cc)
  charged (Some left) rest e = by (nat_lt left work) e
    where
      by : (b : Bool) → ◌≡◌ {A = Result (Option ℕ) Refusal} (cond b (Err TooBig) (Ok (Some (left - work)))) (Ok rest) → cond b (Err TooBig) (next (Some (left - work))) ≡ next rest
      by true p = absurd (cc)
      by false p = ap next (cc)

  -- else it is refused
  pub too-much : (left : Option ℕ) (refusal : Refusal) → with_work work left Ok ≡ Err refusal → with_work work left next ≡ Err refusal
  too-much None refusal e = absurd (cc)
  too-much (Some left) refusal e = by (nat_lt left work) e
    where
      by : (b : Bool) → ◌≡◌ {A = Result (Option ℕ) Refusal} (cond b (Err TooBig) (Ok (Some (left - work)))) (Err refusal) → cond b (Err TooBig) (next (Some (left - work))) ≡ Err refusal
      by true p = let same : TooBig ≡ refusal = cc in ap Err same
      by false p = absurd (cc)

-- ---- work that 64 bits may not hold

scaled-by : (count each price top work : ℕ) → each ≡ min price top → work ≡ min (count * each) top → (price < top) ⊎ (top ≤ price) → work ≡ min (count * price) top
scaled-by count each price top work e w (inl small) = let same : each ≡ price = omega (arith, small, e) in w ∙ ap (λ (n : ℕ). min (count * n) top) same
scaled-by zero each price top work e w (inr large) = w ∙ ap (λ (n : ℕ). min n top) (zero-mul each ∙ sym (zero-mul price))
scaled-by (suc n) each price top work e w (inr large) =
    let full : each ≡ top = omega (arith, large, e) in
    let one : each ≤ each * suc n = le-mul_of_pos_right each (omega arith) in
    let two : price ≤ price * suc n = le-mul_of_pos_right price (omega arith) in
    omega (arith, w, full, one, two, large, mul_comm each (suc n), mul_comm price (suc n))

-- so much for each, at most what is held, is so much in all, at most what is held
pub scaled : (count each price top work : ℕ) → each ≡ min price top → work ≡ min (count * each) top → work ≡ min (count * price) top
scaled count each price top work e w = scaled-by count each price top work e w (by (nat_lt price top) refl)
  where
    by : (b : Bool) → nat_lt price top ≡ b → (price < top) ⊎ (top ≤ price)
    by true h = inl (ltb-true price top h)
    by false h = inr (ltb-false price top h)

-- ---- changes

-- so many changes, each so much work
priced-work : (each count : ℕ) (left : Option ℕ) (given : Result (Option ℕ) Refusal) (changes : List Change) → count ≡ length changes → given ≡ with_work (count * each) left Ok → with_work (length changes * each) left Ok ≡ given
priced-work each count left given changes same e = sym (subst (λ (n : ℕ). given ≡ with_work (n * each) left Ok) same e)

pub priced-ok : (each count : ℕ) (left rest : Option ℕ) (changes : List Change) → count ≡ length changes → Ok rest ≡ with_work (count * each) left Ok → within_budget each left (Ok changes) ≡ Ok (changes, rest)
priced-ok each count left rest changes same e = charged (length changes * each) (λ l. Ok (changes, l)) left rest (priced-work each count left (Ok rest) changes same e)

pub priced-err : (each count : ℕ) (left : Option ℕ) (refusal : Refusal) (changes : List Change) → count ≡ length changes → Err refusal ≡ with_work (count * each) left Ok → within_budget each left (Ok changes) ≡ Err refusal
priced-err each count left refusal changes same e = too-much (length changes * each) (λ l. Ok (changes, l)) left refusal (priced-work each count left (Err refusal) changes same e)
