-- What holds of the records of a log, whose times rise.
use Rattle.std.proofs.Common.{◌≡◌, ℕ, zero, suc, ◌+◌, ◌<◌, ◌≤◌, Bool, true, false, cond, ◌&&◌, ◌==◌, List, [], ◌∷◌, ◌++◌, reverse, append-nil, length, take, drop, eq-eqb, ne_eqb, Option, Some, None, slice_get, nat_le, refl, sym, ap, ◌∙◌, arith, subst}
use Rattle.std.specs.List.{filter}
use Rattle.std.proofs.lemmas.List.{reverse-append}
use Rattle.std.proofs.lemmas.List.Elements.{filter-append}
use Rattle.std.proofs.lemmas.Bool.{lt-ltb, le-ltb, lt-leb, and_parts}
use Rattle.std.proofs.lemmas.Option.{slice_get_within, slice_get-get_or}
use Rattle.std.proofs.Math.ListN.{drop_of_length-le, get_or}
use native.Mathlib.Numerals.{unary_clauses}
use Rattle.sb_value.specs.declared.change.Change.{Change}
use Rattle.sb_rawlog.specs.Records.{Record, Rising, selected, walk, before, without, change_at}
use Rattle.sb_rawlog.specs.Found.{Found}

pub rising_below : (low : ℕ) (rs : List Record) (clock : ℕ) → Rising low rs clock → low ≤ clock
rising_below low [] clock h = h
rising_below low (r ∷ rs) clock h = omega (arith, h.0, rising_below (r.0 + 1) rs clock h.1)

pub rising_lower : (low lower : ℕ) (rs : List Record) (clock : ℕ) → lower ≤ low → Rising low rs clock → Rising lower rs clock
rising_lower low lower [] clock le h = omega arith
rising_lower low lower (r ∷ rs) clock le h = let a : low ≤ r.0 = h.0 in (omega arith, h.1)

pub before-none : (t low : ℕ) (rs : List Record) (clock : ℕ) → t ≤ low → Rising low rs clock → before t rs ≡ []
unfolding before
before-none t low [] clock le h = refl
before-none t low (r ∷ rs) clock le h =
    let a : low ≤ r.0 = h.0 in
    rw (le-ltb r.0 t (omega arith)) (before-none t (r.0 + 1) rs clock (omega arith) h.1)

pub before-all : (t low : ℕ) (rs : List Record) (clock : ℕ) → clock ≤ t → Rising low rs clock → before t rs ≡ rs
unfolding before
before-all t low [] clock le h = refl
before-all t low (r ∷ rs) clock le h =
    let a : r.0 + 1 ≤ clock = rising_below (r.0 + 1) rs clock h.1 in
    rw (lt-ltb r.0 t (omega arith)) (ap (λ l. r ∷ l) (before-all t (r.0 + 1) rs clock le h.1))

pub without-above : (t low : ℕ) (rs : List Record) (clock : ℕ) → t < low → Rising low rs clock → without t rs ≡ rs
unfolding without
without-above t low [] clock lt h = refl
without-above t low (r ∷ rs) clock lt h =
    let a : low ≤ r.0 = h.0 in
    let e : (r.0 == t) ≡ false = ne_eqb r.0 t (omega arith) in
    rw e (ap (λ l. r ∷ l) (without-above t (r.0 + 1) rs clock (omega arith) h.1))

module _ (r : Record) (ys : List Record) where
  pub first_below : (low : ℕ) (xs : List Record) (clock : ℕ) → Rising low (xs ++ r ∷ ys) clock → low ≤ r.0
  first_below low [] clock h = h.0
  first_below low (x ∷ xs) clock h = let b = first_below (x.0 + 1) xs clock h.1 in omega (arith, h.0)

  -- the records before the time of one that is there are those in front of it
  pub before-split : (low : ℕ) (xs : List Record) (clock : ℕ) → Rising low (xs ++ r ∷ ys) clock → before r.0 (xs ++ r ∷ ys) ≡ xs
  unfolding before
  before-split low [] clock h = rw (le-ltb r.0 r.0 (omega arith)) (before-none r.0 (r.0 + 1) ys clock (omega arith) h.1)
  before-split low (x ∷ xs) clock h =
      let a : x.0 + 1 ≤ r.0 = first_below (x.0 + 1) xs clock h.1 in
      rw (lt-ltb x.0 r.0 (omega arith)) (ap (λ l. x ∷ l) (before-split (x.0 + 1) xs clock h.1))

  pub change_at-split : (low : ℕ) (xs : List Record) (clock : ℕ) → Rising low (xs ++ r ∷ ys) clock → change_at r.0 (xs ++ r ∷ ys) ≡ Some r.1
  unfolding change_at
  change_at-split low [] clock h = let e = eq-eqb r.0 r.0 refl in rw e refl
  change_at-split low (x ∷ xs) clock h =
      let a : x.0 + 1 ≤ r.0 = first_below (x.0 + 1) xs clock h.1 in
      let e : (x.0 == r.0) ≡ false = ne_eqb x.0 r.0 (omega arith) in
      rw e (change_at-split (x.0 + 1) xs clock h.1)

  pub without-split : (low : ℕ) (xs : List Record) (clock : ℕ) → Rising low (xs ++ r ∷ ys) clock → without r.0 (xs ++ r ∷ ys) ≡ xs ++ ys
  unfolding without
  without-split low [] clock h = let e = eq-eqb r.0 r.0 refl in rw e (without-above r.0 (r.0 + 1) ys clock (omega arith) h.1)
  without-split low (x ∷ xs) clock h =
      let a : x.0 + 1 ≤ r.0 = first_below (x.0 + 1) xs clock h.1 in
      let e : (x.0 == r.0) ≡ false = ne_eqb x.0 r.0 (omega arith) in
      rw e (ap (λ l. x ∷ l) (without-split (x.0 + 1) xs clock h.1))

-- what a test keeps still rises
pub rising-filter : (p : Record → Bool) (low : ℕ) (rs : List Record) (clock : ℕ) → Rising low rs clock → Rising low (filter p rs) clock
rising-filter p low [] clock h = h
rising-filter p low (r ∷ rs) clock h =
    let on = rising-filter p (r.0 + 1) rs clock h.1 in
    let a : low ≤ r.0 = h.0 in
    elim (p r) as (λ b. Rising low (cond b (r ∷ filter p rs) (filter p rs)) clock) [
      | true ↦ (h.0, on)
      | false ↦ rising_lower (r.0 + 1) low (filter p rs) clock (omega arith) on
    ]

pub rising-push : (low : ℕ) (rs : List Record) (clock : ℕ) (c : Change) → Rising low rs clock → Rising low (rs ++ (clock, c) ∷ []) (clock + 1)
rising-push low [] clock c h = (h, omega arith)
rising-push low (r ∷ rs) clock c h = (h.0, rising-push (r.0 + 1) rs clock c h.1)

-- a list about one of its indices
pub split_at : {X : Type 0} (xs : List X) (i : ℕ) (x : X) → slice_get xs i ≡ Some x → (xs ≡ take i xs ++ x ∷ drop (i + 1) xs) × (take (i + 1) xs ≡ take i xs ++ x ∷ [])
split_at [] i x e = absurd (cc)
split_at (y ∷ xs) zero x e = let same : y ≡ x = cc in (ap (λ z. z ∷ xs) same, ap (λ z. z ∷ []) same)
split_at (y ∷ xs) (suc i) x e = let on = split_at xs i x e in (simp unary_clauses (ap (λ l. y ∷ l) (simp unary_clauses at on.0)), simp unary_clauses (ap (λ l. y ∷ l) (simp unary_clauses at on.1)))

-- an element that was read
pub read : {X : Type 0} (xs : List X) (i : ℕ) (x : X) → x ≡ get_or xs i x → i < length xs → slice_get xs i ≡ Some x
read xs i x e lt = slice_get-get_or xs i x lt ∙ ap Some (sym e)

module _ (rs : List Record) (i : ℕ) (r : Record) (clock : ℕ) (up : Rising 0 rs clock) (e : slice_get rs i ≡ Some r) where
  cut_up : Rising 0 (take i rs ++ r ∷ drop (i + 1) rs) clock
  cut_up = subst (λ l. Rising 0 l clock) (split_at rs i r e).0 up

  -- the records before the time of one are those in front of it
  pub before-index : before r.0 rs ≡ take i rs
  before-index = ap (before r.0) (split_at rs i r e).0 ∙ before-split r (drop (i + 1) rs) 0 (take i rs) clock cut_up

  pub change_at-index : change_at r.0 rs ≡ Some r.1
  change_at-index = ap (change_at r.0) (split_at rs i r e).0 ∙ change_at-split r (drop (i + 1) rs) 0 (take i rs) clock cut_up

module _ (t : ℕ) where
  ahead_step : (rs : List Record) (i : ℕ) (r : Record) → slice_get rs i ≡ Some r → drop i rs ≡ r ∷ drop (i + 1) rs
  ahead_step [] i r e = absurd (cc)
  ahead_step (x ∷ rs) zero r e = let same : x ≡ r = cc in ap (λ z. z ∷ rs) same
  ahead_step (x ∷ rs) (suc i) r e = simp unary_clauses (simp unary_clauses at (ahead_step rs i r e))

  pub ahead_passed : (rs : List Record) (i : ℕ) (r : Record) → slice_get rs i ≡ Some r → (r.0 == t) ≡ false → change_at t (drop i rs) ≡ change_at t (drop (i + 1) rs)
  unfolding change_at
  ahead_passed rs i r e other = ap (change_at t) (ahead_step rs i r e) ∙ ap (λ b. cond b (Some r.1) (change_at t (drop (i + 1) rs))) other

  pub ahead_here : (rs : List Record) (i : ℕ) (r : Record) → slice_get rs i ≡ Some r → (r.0 == t) ≡ true → change_at t (drop i rs) ≡ Some r.1
  unfolding change_at
  ahead_here rs i r e same = ap (change_at t) (ahead_step rs i r e) ∙ ap (λ b. cond b (Some r.1) (change_at t (drop (i + 1) rs))) same

  pub ahead-none : (rs : List Record) (i : ℕ) → length rs ≤ i → change_at t (drop i rs) ≡ None
  unfolding change_at
  ahead-none rs i le = ap (change_at t) (drop_of_length-le rs le)

module _ (p : Change → Bool) (since : ℕ) where
  walk-push : (xs : List Record) (r : Record) → walk p since (xs ++ r ∷ []) ≡ cond (nat_le since r.0 && p r.1) (r ∷ walk p since xs) (walk p since xs)
  unfolding walk selected
  walk-push xs r = let f : Record → Bool = λ q. nat_le since q.0 && p q.1 in
      ap reverse (filter-append f xs (r ∷ [])) ∙ elim (f r) as (λ b. reverse (filter f xs ++ cond b (r ∷ []) []) ≡ cond b (r ∷ reverse (filter f xs)) (reverse (filter f xs))) [
        | true ↦ reverse-append (filter f xs) (r ∷ [])
        | false ↦ ap reverse (append-nil (filter f xs))
      ]

  -- a record that is not selected, at the end
  pub passed : (rs : List Record) (n i : ℕ) (r : Record) → n ≡ i + 1 → slice_get rs i ≡ Some r → (nat_le since r.0 && p r.1) ≡ false → walk p since (take n rs) ≡ walk p since (take i rs)
  passed rs n i r next e not_so =
      ap (λ m. walk p since (take m rs)) next ∙ ap (walk p since) (split_at rs i r e).1 ∙ walk-push (take i rs) r ∙ ap (λ b. cond b (r ∷ walk p since (take i rs)) (walk p since (take i rs))) not_so

  -- one that is
  pub found : (rs todo : List Record) (clock n i : ℕ) (r : Record) → n ≡ i + 1 → Rising 0 rs clock → slice_get rs i ≡ Some r → (nat_le since r.0 && p r.1) ≡ true
      → todo ≡ walk p since (take n rs) → Found p since rs todo i
  found rs todo clock n i r next up e chosen so =
      let cut = split_at rs i r e in
      let front : List Record = take i rs in
      record {
        within = slice_get_within rs i r e;
        record_at = r;
        is = e;
        fits = (and_parts (nat_le since r.0) (p r.1) chosen).1;
        here = change_at-index rs i r clock up e;
        first = so ∙ ap (λ m. walk p since (take m rs)) next ∙ ap (walk p since) cut.1 ∙ walk-push front r ∙ ap (λ b. cond b (r ∷ walk p since front) (walk p since front)) chosen
            ∙ ap (λ l. r ∷ walk p since l) (sym (before-index rs i r clock up e));
      }

  -- those in front of one that is too old are too old
  too_old : (r : Record) (ys : List Record) → r.0 < since → (low : ℕ) (xs : List Record) (clock : ℕ) → Rising low (xs ++ r ∷ ys) clock → selected p since (xs ++ r ∷ []) ≡ []
  unfolding selected
  too_old r ys old low [] clock up = ap (λ b. cond (b && p r.1) (r ∷ []) []) (lt-leb since r.0 old)
  too_old r ys old low (x ∷ xs) clock up =
      let a : x.0 + 1 ≤ r.0 = first_below r ys (x.0 + 1) xs clock up.1 in
      ap (λ b. cond (b && p x.1) (x ∷ selected p since (xs ++ r ∷ [])) (selected p since (xs ++ r ∷ []))) (lt-leb since x.0 (omega arith)) ∙ too_old r ys old (x.0 + 1) xs clock up.1

  pub none_older : (rs : List Record) (clock n i : ℕ) (r : Record) → n ≡ i + 1 → Rising 0 rs clock → slice_get rs i ≡ Some r → r.0 < since → walk p since (take n rs) ≡ []
  unfolding walk
  none_older rs clock n i r next up e old =
      let cut = split_at rs i r e in
      ap (λ m. walk p since (take m rs)) next ∙ ap (walk p since) cut.1
      ∙ ap reverse (too_old r (drop (i + 1) rs) old 0 (take i rs) clock (subst (λ l. Rising 0 l clock) cut.0 up))

  pub walk-nil : (rs : List Record) (n : ℕ) → n ≡ 0 → walk p since (take n rs) ≡ []
  unfolding walk selected
  walk-nil rs n e = ap (λ m. walk p since (take m rs)) e

pub same_record : (r : Record) (t : ℕ) (c : Change) → r.0 ≡ t → Some r.1 ≡ Some c → r ≡ (t, c)
same_record r t c e f = let g : r.1 ≡ c = cc in λ j. (e j, g j)

pub not_both : {X : Type 0} {o : Option X} {x : X} → o ≡ Some x → o ≡ None → ⊥
not_both e f = cc
