-- The earliest rule of a list that passes a test, found by number.
use Rattle.std.proofs.Common.{◌≡◌, ◌∙◌, ℕ, zero, suc, ◌+◌, ◌<◌, ◌≤◌, Bool, true, false, cond, nat_lt, ◌==◌, ◌&&◌, List, [], ◌∷◌, find, Option, Some, None, refl, sym, ap, subst, arith, eqb-true}
use Rattle.std.specs.List.{slice_get}
use Rattle.std.proofs.lemmas.Bool.{ltb-true, ltb-false, eqb-false, and_parts, and_from}
use Rattle.std.proofs.Math.Bool.{and-false}
use Rattle.std.specs.Prelude.{MatchOption}
use Rattle.sb_value.specs.Flags.{flag_at, IsFirstFrom}
use Rattle.sb_priority.proofs.ListLaws.{has, has_at, stands}

-- no rule below the number passes; or this one does, and none of those below the number that stand before it
abbrev pub IsEarliest : (ℕ → Bool) → List ℕ → ℕ → Option ℕ → Type 0
IsEarliest test rules n None = (k r : ℕ) → slice_get rules k ≡ Some r → r < n → test r ≡ false
IsEarliest test rules n (Some f) =
    (test f ≡ true) × ((at : ℕ) × (slice_get rules at ≡ Some f) × ((k r : ℕ) → slice_get rules k ≡ Some r → r < n → k < at → test r ≡ false))

-- none passes
none_found : (test : ℕ → Bool) (rules : List ℕ) → ((k r : ℕ) → slice_get rules k ≡ Some r → test r ≡ false) → find test rules ≡ None
none_found test [] none = refl
none_found test (x ∷ rules) none = ap (λ b. cond b (Some x) (find test rules)) (none zero x refl) ∙ none_found test rules (λ k r is. none (suc k) r is)

-- the first that passes
first_found : (test : ℕ → Bool) (rules : List ℕ) (at f : ℕ) → slice_get rules at ≡ Some f → test f ≡ true → ((k r : ℕ) → slice_get rules k ≡ Some r → k < at → test r ≡ false) → find test rules ≡ Some f
first_found test [] at f is fits before = absurd (cc)
first_found test (x ∷ rules) zero f is fits before = ap (λ b. cond b (Some x) (find test rules)) (ap test (some_same x f is) ∙ fits) ∙ is
  where
    some_same : (a b : ℕ) → Some a ≡ Some b → a ≡ b
    some_same a b e = cc
first_found test (x ∷ rules) (suc at) f is fits before =
    ap (λ b. cond b (Some x) (find test rules)) (before zero x refl (omega arith)) ∙ first_found test rules at f is fits (λ k r e low. before (suc k) r e (omega (arith, low)))

-- with all numbers seen the earliest is the first of the list
is_first : (test : ℕ → Bool) (rules : List ℕ) (n : ℕ) (o : Option ℕ) → ((k r : ℕ) → slice_get rules k ≡ Some r → n ≤ r → test r ≡ false) → IsEarliest test rules n o → o ≡ find test rules
is_first test rules n None past none = sym (none_found test rules (λ k r is. by k r is (nat_lt r n) refl))
  where
    by : (k r : ℕ) → slice_get rules k ≡ Some r → (b : Bool) → nat_lt r n ≡ b → test r ≡ false
    by k r is true e = none k r is (ltb-true r n e)
    by k r is false e = past k r is (ltb-false r n e)
is_first test rules n (Some f) past first = sym (first_found test rules first.1.0 f first.1.1 first.0 (λ k r is low. by k r is low (nat_lt r n) refl))
  where
    by : (k r : ℕ) → slice_get rules k ≡ Some r → k < first.1.0 → (b : Bool) → nat_lt r n ≡ b → test r ≡ false
    by k r is low true e = first.1.2 k r is (ltb-true r n e) low
    by k r is low false e = past k r is (ltb-false r n e)

-- no rule between the two numbers passes, nor the one at the second
none_more : (test : ℕ → Bool) (rules : List ℕ) (n m : ℕ) (o : Option ℕ) → ((k r : ℕ) → slice_get rules k ≡ Some r → n ≤ r → r < m → test r ≡ false) → IsEarliest test rules n o → IsEarliest test rules m o
none_more test rules n m None between none = λ k r is low. by k r is low (nat_lt r n) refl
  where
    by : (k r : ℕ) → slice_get rules k ≡ Some r → r < m → (b : Bool) → nat_lt r n ≡ b → test r ≡ false
    by k r is low true e = none k r is (ltb-true r n e)
    by k r is low false e = between k r is (ltb-false r n e) low
none_more test rules n m (Some f) between first = (first.0, (first.1.0, first.1.1, λ k r is low before. by k r is low before (nat_lt r n) refl))
  where
    by : (k r : ℕ) → slice_get rules k ≡ Some r → r < m → k < first.1.0 → (b : Bool) → nat_lt r n ≡ b → test r ≡ false
    by k r is low before true e = first.1.2 k r is (ltb-true r n e) before
    by k r is low before false e = between k r is (ltb-false r n e) low

-- ---- one rule more that passes

-- each rule has one place
abbrev pub HaveOnePlace : List ℕ → Type 0
HaveOnePlace rules = (j k r : ℕ) → slice_get rules j ≡ Some r → slice_get rules k ≡ Some r → j ≡ k

-- of the two the one with the lesser place
abbrev pub IsEarlier : List ℕ → Option ℕ → ℕ → ℕ → ℕ → Type 0
IsEarlier rules o rule place result = MatchOption o (result ≡ rule) (λ other. (j : ℕ) → slice_get rules j ≡ Some other → result ≡ cond (nat_lt j place) other rule)

one_more : (test : ℕ → Bool) (rules : List ℕ) (n rule place : ℕ) (o : Option ℕ) (result : ℕ) → HaveOnePlace rules → slice_get rules place ≡ Some rule → test rule ≡ true →
    ((k r : ℕ) → slice_get rules k ≡ Some r → n ≤ r → r < rule → test r ≡ false) → IsEarlier rules o rule place result → IsEarliest test rules n o → IsEarliest test rules (rule + 1) (Some result)
one_more test rules n rule place o result single at fits between earlier before = by o earlier before
  where
    -- a rule that stands elsewhere and isn't below the number doesn't pass
    past : (k r : ℕ) → slice_get rules k ≡ Some r → r < rule + 1 → k < place → n ≤ r → test r ≡ false
    past k r is low earlier_place from = step (r == rule) refl
      where
        step : (same : Bool) → (r == rule) ≡ same → test r ≡ false
        step true e = absurd (let one : k ≡ place = single k place rule (is ∙ ap (λ x. Some x) (eqb-true r rule e)) at in omega (arith, one, earlier_place))
        step false e = between k r is from (let other = eqb-false r rule e in omega (arith, other, low))

    below : (r : ℕ) → (r < n → test r ≡ false) → (n ≤ r → test r ≡ false) → test r ≡ false
    below r small large = step (nat_lt r n) refl
      where
        step : (b : Bool) → nat_lt r n ≡ b → test r ≡ false
        step true e = small (ltb-true r n e)
        step false e = large (ltb-false r n e)

    by : (o : Option ℕ) → IsEarlier rules o rule place result → IsEarliest test rules n o → IsEarliest test rules (rule + 1) (Some result)
    by None is none =
        subst (λ (x : ℕ). IsEarliest test rules (rule + 1) (Some x)) (sym is)
        (fits, (place, at, λ k r here low before. below r (λ less. none k r here less) (λ more. past k r here low before more)))
    by (Some other) is first = pick (nat_lt first.1.0 place) refl
      where
        pick : (b : Bool) → nat_lt first.1.0 place ≡ b → IsEarliest test rules (rule + 1) (Some result)
        pick true e =
            let least : first.1.0 < place = ltb-true first.1.0 place e in
            subst (λ (x : ℕ). IsEarliest test rules (rule + 1) (Some x)) (sym (is first.1.0 first.1.1 ∙ ap (λ b. cond b other rule) e))
            (first.0, (first.1.0, first.1.1, λ k r here low before. below r (λ less. first.1.2 k r here less before) (λ more. past k r here low (omega (arith, before, least)) more)))
        pick false e =
            let least : place ≤ first.1.0 = ltb-false first.1.0 place e in
            subst (λ (x : ℕ). IsEarliest test rules (rule + 1) (Some x)) (sym (is first.1.0 first.1.1 ∙ ap (λ b. cond b other rule) e))
            (fits, (place, at, λ k r here low before. below r (λ less. first.1.2 k r here less (omega (arith, before, least))) (λ more. past k r here low before more)))

-- ---- the rules of a set by number

-- the flags are those of the set, for rules of the list
abbrev pub AreRanked : List ℕ → List Bool → List Bool → Type 0
AreRanked rules set flags = (k : ℕ) → flag_at flags k ≡ (has rules k && flag_at set k)

unflagged : (rules : List ℕ) (set flags : List Bool) (free : ℕ → Bool) (n : ℕ) → AreRanked rules set flags → (k r : ℕ) → slice_get rules k ≡ Some r → flag_at flags r ≡ false → (flag_at set r && free r) ≡ false
unflagged rules set flags free n are k r is none =
    let out : flag_at set r ≡ false = sym (ap (λ b. b && flag_at set r) (has_at rules k r is)) ∙ sym (are r) ∙ none in
    ap (λ b. b && free r) out

-- the next rule of the set is free
pub one_free : (rules : List ℕ) (set flags : List Bool) (free : ℕ → Bool) (n rule : ℕ) (o : Option ℕ) (result : ℕ) → HaveOnePlace rules → AreRanked rules set flags → IsFirstFrom n flags rule → free rule ≡ true →
    ((k : ℕ) → slice_get rules k ≡ Some rule → IsEarlier rules o rule k result) → IsEarliest (λ r. flag_at set r && free r) rules n o → IsEarliest (λ r. flag_at set r && free r) rules (rule + 1) (Some result)
one_free rules set flags free n rule o result single are next is earlier before =
    let both = and_parts (has rules rule) (flag_at set rule) (sym (are rule) ∙ next.is_in) in
    let at = stands rules rule both.0 in
    one_more (λ r. flag_at set r && free r) rules n rule at.0 o result single at.1 (and_from (flag_at set rule) (free rule) both.1 is)
    (λ k r here from low. unflagged rules set flags free n are k r here (next.least r from low)) (earlier at.0 at.1) before

-- the next rule of the set isn't free
pub none_free : (rules : List ℕ) (set flags : List Bool) (free : ℕ → Bool) (n rule : ℕ) (o : Option ℕ) → AreRanked rules set flags → IsFirstFrom n flags rule → free rule ≡ false →
    IsEarliest (λ r. flag_at set r && free r) rules n o → IsEarliest (λ r. flag_at set r && free r) rules (rule + 1) o
none_free rules set flags free n rule o are next not_free before = none_more (λ r. flag_at set r && free r) rules n (rule + 1) o (λ k r here from low. by k r here from low (r == rule) refl) before
  where
    by : (k r : ℕ) → slice_get rules k ≡ Some r → n ≤ r → r < rule + 1 → (same : Bool) → (r == rule) ≡ same → (flag_at set r && free r) ≡ false
    by k r here from low true e = ap (λ b. flag_at set r && b) (ap free (eqb-true r rule e) ∙ not_free) ∙ and-false (flag_at set r)
    by k r here from low false e = unflagged rules set flags free n are k r here (next.least r from (let other = eqb-false r rule e in omega (arith, other, low)))

-- the set has no more rules
pub all_seen : (rules : List ℕ) (set flags : List Bool) (free : ℕ → Bool) (n : ℕ) (o : Option ℕ) → AreRanked rules set flags → ((k : ℕ) → n ≤ k → flag_at flags k ≡ false) →
    IsEarliest (λ r. flag_at set r && free r) rules n o → o ≡ find (λ r. flag_at set r && free r) rules
all_seen rules set flags free n o are none before = is_first (λ r. flag_at set r && free r) rules n o (λ k r here from. unflagged rules set flags free n are k r here (none r from)) before
