-- The places that are noted for rules.
use Rattle.std.proofs.lemmas.Bool.{or_parts}
use Rattle.std.proofs.Common.{◌≡◌, ◌∙◌, ℕ, zero, suc, ◌+◌, ◌<◌, ◌≤◌, Bool, true, false, not, ◌||◌, cond, nat_eq, List, [], ◌∷◌, ◌++◌, map, find, set, length, Option, Some, None, option_map, unwrap_or, is_some, slice_get, refl, sym, ap, arith, eq-eqb, ne_eqb, eqb-true}
use Rattle.std.specs.List.{list_any, remove}
use Rattle.std.proofs.lemmas.Bool.Decides.{nat_tests}
use Rattle.std.proofs.lemmas.Option.{none-some, same_Some, slice_get-map}
use Rattle.sb_catalog.specs.declared.rule.Rule.{Rule}
use Rattle.sb_catalog.specs.Rules.{change_numbered, without_rule, numbered, AreNumbered}
use Rattle.sb_catalog.proofs.LeastFree.{has}
use Rattle.sb_catalog.specs.Places.{place_at, closed, AreNotedFrom}

module _ (places : List ℕ) where
  -- the place of a rule is the one that is noted
  pub noted_at : (k i : ℕ) (rules : List Rule) (r : Rule) → AreNotedFrom k places rules → slice_get rules i ≡ Some r → slice_get places r.id ≡ Some (k + i)
  noted_at k i [] r h e = absurd (none-some r e)
  noted_at k zero (s ∷ rules) r h e =
      ap (λ (x : Rule). slice_get places x.id) (sym (same_Some s r e)) ∙ h.0 ∙ ap Some (omega arith)
  noted_at k (suc i) (s ∷ rules) r h e = noted_at (k + 1) i rules r h.1 e ∙ ap Some (omega arith)

  -- numbers that are noted at other places are others
  pub others : (m n j k : ℕ) → slice_get places n ≡ Some j → slice_get places m ≡ Some k → (j ≡ k → ⊥) → nat_eq m n ≡ false
  others m n j k e f h = ne_eqb m n (λ same. h (same_Some j k (sym e ∙ ap (slice_get places) (sym same) ∙ f)))

  module _ (n j : ℕ) (at : slice_get places n ≡ Some j) where
    -- a number that is noted in front of the rules is none of theirs
    pub none_behind : (k : ℕ) (rules : List Rule) → j < k → AreNotedFrom k places rules → without_rule rules n ≡ rules
    none_behind k [] l h = refl
    none_behind k (s ∷ rules) l h =
        let other = others s.id n j k at h.0 (λ same. absurd (omega arith)) in
        let rest = none_behind (k + 1) rules (omega arith) h.1 in
        λ i. cond (not (other i)) (s ∷ rest i) (rest i)

    pub none_changed : (change : Rule → Rule) (k : ℕ) (rules : List Rule) → j < k → AreNotedFrom k places rules → map (change_numbered n change) rules ≡ rules
    none_changed change k [] l h = refl
    none_changed change k (s ∷ rules) l h =
        let other = others s.id n j k at h.0 (λ same. absurd (omega arith)) in
        λ i. cond (other i) (change s) s ∷ none_changed change (k + 1) rules (omega arith) h.1 i

  -- to drop a rule is to take out its place
  pub removed : (k i : ℕ) (rules : List Rule) (r : Rule) → AreNotedFrom k places rules → slice_get rules i ≡ Some r → without_rule rules r.id ≡ remove rules i
  removed k i [] r h e = absurd (none-some r e)
  removed k zero (s ∷ rules) r h e =
      let same = same_Some s r e in
      let it : nat_eq s.id r.id ≡ true = eq-eqb s.id r.id (ap (λ (x : Rule). x.id) same) in
      let at : slice_get places r.id ≡ Some k = ap (λ (x : Rule). slice_get places x.id) (sym same) ∙ h.0 in
      (λ l. cond (not (it l)) (s ∷ without_rule rules r.id) (without_rule rules r.id)) ∙ none_behind r.id k at (k + 1) rules (omega arith) h.1
  removed k (suc i) (s ∷ rules) r h e =
      let other = others s.id r.id (k + 1 + i) k (noted_at (k + 1) i rules r h.1 e) h.0 (λ same. absurd (omega arith)) in
      let rest = removed (k + 1) i rules r h.1 e in
      λ l. cond (not (other l)) (s ∷ rest l) (rest l)

  -- to change a rule is to change it at its place
  pub changed : (change : Rule → Rule) (k i : ℕ) (rules : List Rule) (r : Rule) → AreNotedFrom k places rules → slice_get rules i ≡ Some r → map (change_numbered r.id change) rules ≡ set rules i (change r)
  changed change k i [] r h e = absurd (none-some r e)
  changed change k zero (s ∷ rules) r h e =
      let same = same_Some s r e in
      let it : nat_eq s.id r.id ≡ true = eq-eqb s.id r.id (ap (λ (x : Rule). x.id) same) in
      let at : slice_get places r.id ≡ Some k = ap (λ (x : Rule). slice_get places x.id) (sym same) ∙ h.0 in
      (λ l. cond (it l) (change s) s ∷ none_changed r.id k at change (k + 1) rules (omega arith) h.1 l) ∙ ap (λ (x : Rule). change x ∷ rules) same
  changed change k (suc i) (s ∷ rules) r h e =
      let other = others s.id r.id (k + 1 + i) k (noted_at (k + 1) i rules r h.1 e) h.0 (λ same. absurd (omega arith)) in
      λ l. cond (other l) (change s) s ∷ changed change (k + 1) i rules r h.1 e l

  -- the rule at a place is the one of its number
  pub numbered_at : (k i : ℕ) (rules : List Rule) (r : Rule) → AreNotedFrom k places rules → slice_get rules i ≡ Some r → numbered rules r.id ≡ Some r
  numbered_at k i [] r h e = absurd (none-some r e)
  numbered_at k zero (s ∷ rules) r h e =
      let same = same_Some s r e in
      let it : nat_eq s.id r.id ≡ true = eq-eqb s.id r.id (ap (λ (x : Rule). x.id) same) in
      (λ l. cond (it l) (Some s) (numbered rules r.id)) ∙ e
  numbered_at k (suc i) (s ∷ rules) r h e =
      let other = others s.id r.id (k + 1 + i) k (noted_at (k + 1) i rules r h.1 e) h.0 (λ same. absurd (omega arith)) in
      (λ l. cond (other l) (Some s) (numbered rules r.id)) ∙ numbered_at (k + 1) i rules r h.1 e

  -- the rules as they are noted once a rule is changed, which keeps its number
  pub noted_changed : (change : Rule → Rule) → ((r : Rule) → (change r).id ≡ r.id) → (n k : ℕ) (rules : List Rule) → AreNotedFrom k places rules → AreNotedFrom k places (map (change_numbered n change) rules)
  noted_changed change keeps n k [] h = tt
  noted_changed change keeps n k (s ∷ rules) h = (by (nat_eq s.id n), noted_changed change keeps n (k + 1) rules h.1)
    where
      by : (b : Bool) → slice_get places (cond b (change s) s).id ≡ Some k
      by true = ap (slice_get places) (keeps s) ∙ h.0
      by false = h.0

-- a rule of some number stands at some place
abbrev pub StandsIn : List Rule → ℕ → Rule → Type 0
StandsIn rules n r = (i : ℕ) × (slice_get rules i ≡ Some r) × (r.id ≡ n)

stands_by : (n : ℕ) (s : Rule) (rules : List Rule) (r : Rule) (b : Bool) → nat_eq s.id n ≡ b → cond b (Some s) (numbered rules n) ≡ Some r → (numbered rules n ≡ Some r → StandsIn rules n r) →
    StandsIn (s ∷ rules) n r
stands_by n s rules r true p e rest = (0, e, ap (λ (x : Rule). x.id) (sym (same_Some s r e)) ∙ eqb-true s.id n p)
stands_by n s rules r false p e rest = let later = rest e in (suc later.0, later.1, later.2)

pub numbered_in : (n : ℕ) (rules : List Rule) (r : Rule) → numbered rules n ≡ Some r → StandsIn rules n r
numbered_in n [] r e = absurd (none-some r e)
numbered_in n (s ∷ rules) r e = stands_by n s rules r (nat_eq s.id n) refl e (numbered_in n rules r)

-- which numbers have a rule
pub some_numbered : (rules : List Rule) (k : ℕ) → is_some (numbered rules k) ≡ has (map (λ (r : Rule). r.id) rules) k
some_numbered [] k = refl
some_numbered (r ∷ rules) k = by (nat_eq r.id k) (some_numbered rules k)
  where
    by : (b : Bool) → is_some (numbered rules k) ≡ has (map (λ (s : Rule). s.id) rules) k → is_some (cond b (Some r) (numbered rules k)) ≡ (b || has (map (λ (s : Rule). s.id) rules) k)
    by true e = refl
    by false e = e

pub some_found : (p : Rule → Bool) (rules : List Rule) → is_some (find p rules) ≡ list_any p rules
some_found p [] = refl
some_found p (r ∷ rules) = by (p r) (some_found p rules)
  where
    by : (b : Bool) → is_some (find p rules) ≡ list_any p rules → is_some (cond b (Some r) (find p rules)) ≡ (b || list_any p rules)
    by true e = refl
    by false e = e

pub no_rule : (found : Option Rule) → is_some found ≡ false → found ≡ None
no_rule None e = refl
no_rule (Some r) e = absurd (cc)

-- no two rules have one number
none_with : (places : List ℕ) (n j k : ℕ) (rules : List Rule) → slice_get places n ≡ Some j → j < k → AreNotedFrom k places rules → numbered rules n ≡ None
none_with places n j k [] at l h = refl
none_with places n j k (s ∷ rules) at l h =
    let other = others places s.id n j k at h.0 (λ same. absurd (omega arith)) in
    let rest = none_with places n j (k + 1) rules at (omega arith) h.1 in
    λ i. cond (other i) (Some s) (rest i)

pub noted_numbers : (places : List ℕ) (k : ℕ) (rules : List Rule) → AreNotedFrom k places rules → AreNumbered rules
noted_numbers places k [] h = tt
noted_numbers places k (s ∷ rules) h = (none_with places s.id k (k + 1) rules h.0 (omega arith) h.1, noted_numbers places (k + 1) rules h.1)

-- where the rule at the noted place has another number, or there is none, no rule has the number
pub numbered_none : (places : List ℕ) (n : ℕ) (rules : List Rule) → AreNotedFrom 0 places rules → ((r : Rule) → slice_get rules (place_at places n) ≡ Some r → r.id ≡ n → ⊥) →
    numbered rules n ≡ None
numbered_none places n rules h other = by (numbered rules n) refl
  where
    by : (o : Option Rule) → numbered rules n ≡ o → o ≡ None
    by None e = refl
    by (Some r) e =
        let s = numbered_in n rules r e in
        let place : place_at places n ≡ s.0 = ap (place_at places) (sym s.2) ∙ ap (λ (o : Option ℕ). unwrap_or o 0) (noted_at places 0 s.0 rules r h s.1) ∙ omega arith in
        absurd (other r (ap (slice_get rules) place ∙ s.1) s.2)

-- and where it has the number, it is that rule
pub numbered_some : (places : List ℕ) (n : ℕ) (rules : List Rule) (r : Rule) → AreNotedFrom 0 places rules → slice_get rules (place_at places n) ≡ Some r → r.id ≡ n → numbered rules n ≡ Some r
numbered_some places n rules r h e same = ap (numbered rules) (sym same) ∙ numbered_at places 0 (place_at places n) rules r h e

-- ---- a gap is closed

closed_behind : (gap k : ℕ) → gap ≤ k → closed gap (k + 1) ≡ k
closed_behind gap k h = grind (arith, nat_tests)

closed_before : (gap k : ℕ) → k ≤ gap → closed gap k ≡ k
closed_before gap k h = grind (arith, nat_tests)

moved_up : (places : List ℕ) (gap k : ℕ) (rules : List Rule) → gap ≤ k → AreNotedFrom (k + 1) places rules → AreNotedFrom k (map (closed gap) places) rules
moved_up places gap k [] l h = tt
moved_up places gap k (s ∷ rules) l h = (
  slice_get-map (closed gap) places s.id ∙ ap (option_map (closed gap)) h.0 ∙ ap Some (closed_behind gap k l),
  moved_up places gap (k + 1) rules (omega arith) h.1,
)

pub noted_without : (places : List ℕ) (k i gap : ℕ) (rules : List Rule) (r : Rule) → gap ≡ k + i → AreNotedFrom k places rules → slice_get rules i ≡ Some r →
    AreNotedFrom k (map (closed gap) places) (remove rules i)
noted_without places k i gap [] r g h e = absurd (none-some r e)
noted_without places k zero gap (s ∷ rules) r g h e = moved_up places gap k rules (omega arith) h.1
noted_without places k (suc i) gap (s ∷ rules) r g h e = (
  slice_get-map (closed gap) places s.id ∙ ap (option_map (closed gap)) h.0 ∙ ap Some (closed_before gap k (omega arith)),
  noted_without places (k + 1) i gap rules r (omega arith) h.1 e,
)

-- ---- one more rule

set_here : (xs : List ℕ) (n v : ℕ) → n < length xs → slice_get (set xs n v) n ≡ Some v
set_here [] n v h = absurd (omega arith)
set_here (x ∷ xs) zero v h = refl
set_here (x ∷ xs) (suc n) v h = set_here xs n v (omega arith)

set_elsewhere : (xs : List ℕ) (m n v : ℕ) → (m ≡ n → ⊥) → slice_get (set xs n v) m ≡ slice_get xs m
set_elsewhere [] m n v h = refl
set_elsewhere (x ∷ xs) zero zero v h = absurd (h refl)
set_elsewhere (x ∷ xs) zero (suc n) v h = refl
set_elsewhere (x ∷ xs) (suc m) zero v h = refl
set_elsewhere (x ∷ xs) (suc m) (suc n) v h = set_elsewhere xs m n v (λ e. h (ap suc e))

pub noted_with : (places : List ℕ) (k v : ℕ) (rules : List Rule) (r : Rule) → v ≡ k + length rules → AreNotedFrom k places rules → r.id < length places →
    list_any (λ (s : Rule). nat_eq s.id r.id) rules ≡ false → AreNotedFrom k (set places r.id v) (rules ++ r ∷ [])
noted_with places k v [] r g h l e = (set_here places r.id v l ∙ ap Some (omega arith), tt)
noted_with places k v (s ∷ rules) r g h l e = (
  set_elsewhere places s.id r.id v (λ same. absurd (differ same)) ∙ h.0,
  noted_with places (k + 1) v rules r (omega arith) h.1 l (or_parts (nat_eq s.id r.id) (list_any (λ (t : Rule). nat_eq t.id r.id) rules) e).1,
)
  where
    differ : s.id ≡ r.id → ⊥
    differ same = let yes = eq-eqb s.id r.id same in let no = (or_parts (nat_eq s.id r.id) (list_any (λ (t : Rule). nat_eq t.id r.id) rules) e).0 in cc
