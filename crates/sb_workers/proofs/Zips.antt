-- Two lists, place by place.
use Rattle.std.proofs.Common.{◌≡◌, ℕ, zero, suc, List, [], ◌∷◌, ◌++◌, length, Some, refl, sym, ap, subst, arith}
use Rattle.std.specs.Prelude.{slice_get}
use Rattle.std.specs.List.{AllZip}

module _ {A B : Type 0} (R : A → B → Type 0) where
  zip-append : (xs more : List A) (ys extra : List B) → AllZip R xs ys → AllZip R more extra → AllZip R (xs ++ more) (ys ++ extra)
  zip-append [] more [] extra h k = k
  zip-append [] more (y ∷ ys) extra h k = absurd h
  zip-append (x ∷ xs) more [] extra h k = absurd h
  zip-append (x ∷ xs) more (y ∷ ys) extra h k = (h.0, zip-append xs more ys extra h.1 k)

  pub zip_joins : (xs more all : List A) (ys extra whole : List B) → all ≡ xs ++ more → whole ≡ ys ++ extra → AllZip R xs ys → AllZip R more extra → AllZip R all whole
  zip_joins xs more all ys extra whole e f h k = subst (λ (p : List A × List B). AllZip R p.0 p.1) (λ i. (sym e i, sym f i)) (zip-append xs more ys extra h k)

  pub zip_grows : (xs : List A) (x : A) (all : List A) (ys : List B) (y : B) (whole : List B) → all ≡ xs ++ x ∷ [] → whole ≡ ys ++ y ∷ [] → AllZip R xs ys → R x y → AllZip R all whole
  zip_grows xs x all ys y whole e f h r = zip_joins xs (x ∷ []) all ys (y ∷ []) whole e f h (r, tt)

  pub zip_nil : (xs : List A) (ys : List B) → xs ≡ [] → ys ≡ [] → AllZip R xs ys
  zip_nil xs ys e f = subst (λ (p : List A × List B). AllZip R p.0 p.1) (λ i. (sym e i, sym f i)) tt

  pub zip_same : (xs all : List A) (ys : List B) → all ≡ xs → AllZip R xs ys → AllZip R all ys
  zip_same xs all ys e h = subst (λ l. AllZip R l ys) (sym e) h

  pub zip_length : (xs : List A) (ys : List B) → AllZip R xs ys → length ys ≡ length xs
  zip_length [] [] h = refl
  zip_length [] (y ∷ ys) h = absurd h
  zip_length (x ∷ xs) [] h = absurd h
  zip_length (x ∷ xs) (y ∷ ys) h = ap suc (zip_length xs ys h.1)

  -- what stands at a place of the second list
  pub zip_at : (xs : List A) (ys : List B) (i : ℕ) (y : B) → AllZip R xs ys → slice_get ys i ≡ Some y → (x : A) × (slice_get xs i ≡ Some x) × R x y
  zip_at [] [] i y h e = absurd cc
  zip_at [] (b ∷ ys) i y h e = absurd h
  zip_at (x ∷ xs) [] i y h e = absurd cc
  zip_at (x ∷ xs) (b ∷ ys) zero y h e = let same : b ≡ y = cc in (x, refl, subst (R x) same h.0)
  zip_at (x ∷ xs) (b ∷ ys) (suc i) y h e = zip_at xs ys i y h.1 e

  pub zips : (xs : List A) (ys : List B) → length ys ≡ length xs → ((i : ℕ) (x : A) (y : B) → slice_get xs i ≡ Some x → slice_get ys i ≡ Some y → R x y) → AllZip R xs ys
  zips [] [] e h = tt
  zips [] (y ∷ ys) e h = absurd (omega (arith, e))
  zips (x ∷ xs) [] e h = absurd (omega (arith, e))
  zips (x ∷ xs) (y ∷ ys) e h = (h 0 x y refl refl, zips xs ys (omega (arith, e)) (λ i a b. h (suc i) a b))
