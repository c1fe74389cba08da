-- Rows of places that are all full, or all empty.
use Rattle.std.proofs.Common.{◌≡◌, ℕ, zero, suc, ◌<◌, List, [], ◌∷◌, map, length, replicate, get_or, set, Option, Some, None, slice_get, refl, sym, ap, ◌∙◌, arith, ext_get_or}
use Rattle.std.proofs.lemmas.List.{length-map, length-replicate}
use Rattle.sb_arena.specs.Places.{somes, IsFilled, AreFull}

module _ {X : Type 0} where
  pub somes-map : (xs : List X) → somes (map Some xs) ≡ xs
  somes-map [] = refl
  somes-map (x ∷ xs) = ap (λ l. x ∷ l) (somes-map xs)

  pub full_map : (cs : List (Option X)) (xs : List X) → cs ≡ map Some xs → AreFull cs
  full_map cs xs e = e ∙ ap (map Some) (sym (ap somes e ∙ somes-map xs))

  pub length-somes : (cs : List (Option X)) → AreFull cs → length (somes cs) ≡ length cs
  length-somes cs f = sym (ap length f ∙ length-map (somes cs) Some)

  get-map : (xs : List X) (i : ℕ) → get_or (map Some xs) i None ≡ slice_get xs i
  get-map [] i = refl
  get-map (x ∷ xs) zero = refl
  get-map (x ∷ xs) (suc i) = get-map xs i

  set-map : (xs : List X) (i : ℕ) (v : X) → set (map Some xs) i (Some v) ≡ map Some (set xs i v)
  set-map [] i v = refl
  set-map (x ∷ xs) zero v = refl
  set-map (x ∷ xs) (suc i) v = ap (λ l. Some x ∷ l) (set-map xs i v)

  set-twice : (cs : List (Option X)) (i : ℕ) (a b : Option X) → set (set cs i a) i b ≡ set cs i b
  set-twice [] i a b = refl
  set-twice (c ∷ cs) zero a b = refl
  set-twice (c ∷ cs) (suc i) a b = ap (λ l. c ∷ l) (set-twice cs i a b)

  -- a value was taken out, and another put in its place
  pub replaced : (cs ds es : List (Option X)) (i : ℕ) (v : X) → AreFull cs → ds ≡ set cs i None → es ≡ set ds i (Some v) → es ≡ map Some (set (somes cs) i v)
  replaced cs ds es i v f e g = g ∙ ap (λ l. set l i (Some v)) e ∙ set-twice cs i None (Some v) ∙ ap (λ l. set l i (Some v)) f ∙ set-map (somes cs) i v

pub get-replicate : {Y : Type 0} (n i : ℕ) (v d : Y) → i < n → get_or (replicate n v) i d ≡ v
get-replicate zero i v d h = absurd (omega arith)
get-replicate (suc n) zero v d h = refl
get-replicate (suc n) (suc i) v d h = get-replicate n i v d (omega arith)

module _ {X : Type 0} where
  slice_some : (xs : List X) (i : ℕ) → i < length xs → (x : X) × (slice_get xs i ≡ Some x)
  slice_some [] i h = absurd (omega arith)
  slice_some (x ∷ xs) zero h = (x, refl)
  slice_some (x ∷ xs) (suc i) h = slice_some xs i (omega arith)

  pub filled_in : (cs : List (Option X)) (i : ℕ) → AreFull cs → i < length cs → IsFilled cs i
  filled_in cs i f lt = let s = slice_some (somes cs) i (omega (arith, length-somes cs f)) in (s.0, ap (λ l. get_or l i None) f ∙ get-map (somes cs) i ∙ s.1)

  pub get-nones : (n i : ℕ) → ◌≡◌ {A = Option X} (get_or (replicate n None) i None) None
  get-nones zero i = refl
  get-nones (suc n) zero = refl
  get-nones (suc n) (suc i) = get-nones n i

  pub all_alike : (cs : List (Option X)) (n : ℕ) (v : Option X) → length cs ≡ n → ((k : ℕ) → k < n → get_or cs k None ≡ v) → cs ≡ replicate n v
  all_alike cs n v len h = ext_get_or None cs (replicate n v) (len ∙ sym (length-replicate n v)) (λ i lt. h i (omega arith) ∙ sym (get-replicate n i v None (omega arith)))

  pub map-replicate : (n : ℕ) (v : X) → replicate n (Some v) ≡ map Some (replicate n v)
  map-replicate zero v = refl
  map-replicate (suc n) v = ap (λ l. Some v ∷ l) (map-replicate n v)
