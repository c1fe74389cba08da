-- Names that are looked up in order.
use Rattle.std.proofs.Common.{◌≡◌, ◌∙◌, ◌⊎◌, ℕ, zero, suc, Bool, true, false, if◌then◌else◌, inl, List, [], ◌∷◌, ◌++◌, take, Some, Result, Ok, Err, slice_get, refl, sym, ap, subst}
use Rattle.std.proofs.lemmas.Option.{none-some, same_Some}
use Rattle.sb_value.specs.declared.refusal.Refusal.{Refusal}
use Rattle.sb_value.specs.declared.refusal.Refusal.TheVariants.{NoRuleset, NoMemory}
use Rattle.sb_check.specs.Names.{and_then, in_order, required}

module _ {A B : Type 0} (walk : A → Result B Refusal) where
  -- one more at the end
  abbrev with_last : List B → A → Result (List B) Refusal
  with_last ys x = and_then (walk x) (λ y. Ok (ys ++ y ∷ []))

  behind : (v : B) (before last : Result (List B) Refusal) (next : List B → Result (List B) Refusal) →
      last ≡ and_then before next → ((ys : List B) → next (v ∷ ys) ≡ and_then (next ys) (λ zs. Ok (v ∷ zs))) →
      and_then last (λ zs. Ok (v ∷ zs)) ≡ and_then (and_then before (λ zs. Ok (v ∷ zs))) next
  behind v (Err e) last next same on = ap (λ r. and_then r (λ zs. Ok (v ∷ zs))) same
  behind v (Ok ys) last next same on = ap (λ r. and_then r (λ zs. Ok (v ∷ zs))) same ∙ sym (on ys)

  pub in_order-append : (xs : List A) (x : A) → in_order walk (xs ++ x ∷ []) ≡ and_then (in_order walk xs) (λ ys. with_last ys x)
  in_order-append [] x = by (walk x)
    where
      by : (r : Result B Refusal) → and_then r (λ y. and_then (Ok []) (λ ys. Ok (y ∷ ys))) ≡ and_then (Ok []) (λ ys. and_then r (λ y. Ok (ys ++ y ∷ [])))
      by (Err e) = refl
      by (Ok y) = refl
  in_order-append (z ∷ xs) x = by (walk z) (in_order-append xs x)
    where
      on : (v : B) (r : Result B Refusal) (ys : List B) → and_then r (λ y. Ok ((v ∷ ys) ++ y ∷ [])) ≡ and_then (and_then r (λ y. Ok (ys ++ y ∷ []))) (λ zs. Ok (v ∷ zs))
      on v (Err e) ys = refl
      on v (Ok y) ys = refl

      by : (r : Result B Refusal) → in_order walk (xs ++ x ∷ []) ≡ and_then (in_order walk xs) (λ ys. with_last ys x) →
          and_then r (λ v. and_then (in_order walk (xs ++ x ∷ [])) (λ zs. Ok (v ∷ zs)))
          ≡ and_then (and_then r (λ v. and_then (in_order walk xs) (λ zs. Ok (v ∷ zs)))) (λ ys. with_last ys x)
      by (Err e) rest = refl
      by (Ok v) rest = behind v (in_order walk xs) (in_order walk (xs ++ x ∷ [])) (λ ys. with_last ys x) rest (on v (walk x))

  pub in_order-more : (xs : List A) (x : A) (ys : List B) (y : B) → in_order walk xs ≡ Ok ys → walk x ≡ Ok y → in_order walk (xs ++ x ∷ []) ≡ Ok (ys ++ y ∷ [])
  in_order-more xs x ys y e f = in_order-append xs x ∙ (λ i. and_then (e i) (λ zs. and_then (f i) (λ v. Ok (zs ++ v ∷ []))))

  -- the first that is refused refuses all
  pub in_order-refused : (xs : List A) (i : ℕ) (x : A) (ys : List B) (e : Refusal) → in_order walk (take i xs) ≡ Ok ys → slice_get xs i ≡ Some x → walk x ≡ Err e → in_order walk xs ≡ Err e
  in_order-refused [] i x ys e before at stops = absurd (none-some x at)
  in_order-refused (z ∷ xs) zero x ys e before at stops = ap (λ r. and_then r (λ v. and_then (in_order walk xs) (λ zs. Ok (v ∷ zs)))) (ap walk (same_Some z x at) ∙ stops)
  in_order-refused (z ∷ xs) (suc i) x ys e before at stops = by (walk z) before (λ others f. in_order-refused xs i x others e f at stops)
    where
      inner : (v : B) (r : Result (List B) Refusal) → r ≡ in_order walk (take i xs) → and_then r (λ zs. Ok (v ∷ zs)) ≡ Ok ys → (others : List B) × (in_order walk (take i xs) ≡ Ok others)
      inner v (Err f) is g = absurd (cc)
      inner v (Ok others) is g = (others, sym is)

      by : (r : Result B Refusal) → and_then r (λ v. and_then (in_order walk (take i xs)) (λ zs. Ok (v ∷ zs))) ≡ Ok ys →
          ((others : List B) → in_order walk (take i xs) ≡ Ok others → in_order walk xs ≡ Err e) →
          and_then r (λ v. and_then (in_order walk xs) (λ zs. Ok (v ∷ zs))) ≡ Err e
      by (Err f) g rest = absurd (cc)
      by (Ok v) g rest = let o = inner v (in_order walk (take i xs)) refl g in ap (λ r. and_then r (λ zs. Ok (v ∷ zs))) (rest o.0 o.1)

-- what is refused by itself is refused beside a ruleset, which comes first
pub refused_beside : (has : Bool) (rules : Result (List ℕ) Refusal) (e r : Refusal) → (rules ≡ Err e) ⊎ (e ≡ NoMemory) → r ≡ (if has then e else NoRuleset) → (required has NoRuleset rules ≡ Err r) ⊎ (r ≡ NoMemory)
refused_beside true rules e r h is = subst (λ (x : Refusal). (rules ≡ Err x) ⊎ (x ≡ NoMemory)) (sym is) h
refused_beside false rules e r h is = inl (ap Err (sym is))
