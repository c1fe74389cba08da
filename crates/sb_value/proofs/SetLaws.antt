-- The columns in which two rows differ, one more at a time.
use Rattle.std.proofs.Common.{◌≡◌, ◌∙◌, ℕ, zero, suc, ◌+◌, ◌<◌, ◌≤◌, Bool, true, false, cond, ◌&&◌, nat_eq, nat_lt, slice_set, refl, ap, sym, arith, eqb-true}
use Rattle.std.proofs.lemmas.Bool.{eqb-false, ltb-true, ltb-false, le-ltb}
use Rattle.sb_value.specs.Columns.{set_where}

-- the test of the places before i
abbrev pub up_to : (ℕ → Bool) → ℕ → ℕ → Bool
up_to test i k = nat_lt k i && test k

-- the set with one place more or less
set_at : (test : ℕ → Bool) (i : ℕ) (b : Bool) → i < 8 → slice_set (set_where test) i b ≡ set_where (λ k. cond (nat_eq k i) b (test k))
set_at test zero b h = refl
set_at test (suc zero) b h = refl
set_at test (suc (suc zero)) b h = refl
set_at test (suc (suc (suc zero))) b h = refl
set_at test (suc (suc (suc (suc zero)))) b h = refl
set_at test (suc (suc (suc (suc (suc zero))))) b h = refl
set_at test (suc (suc (suc (suc (suc (suc zero)))))) b h = refl
set_at test (suc (suc (suc (suc (suc (suc (suc zero))))))) b h = refl
set_at test (suc (suc (suc (suc (suc (suc (suc (suc i)))))))) b h = absurd (omega arith)

-- the places before the next are those before this one, and this one
before_next : (test : ℕ → Bool) (i k : ℕ) → cond (nat_eq k i) (test i) (up_to test i k) ≡ up_to test (i + 1) k
before_next test i k = by (nat_eq k i) refl (nat_lt k i) refl (nat_lt k (i + 1)) refl
  where
    by : (same : Bool) → nat_eq k i ≡ same → (below : Bool) → nat_lt k i ≡ below → (next : Bool) → nat_lt k (i + 1) ≡ next →
        cond same (test i) (below && test k) ≡ (next && test k)
    by true e below f true g = ap test (sym (eqb-true k i e))
    by false e true f true g = refl
    by false e false f false g = refl
    by true e below f false g = absurd (let past : i + 1 ≤ k = ltb-false k (i + 1) g in let here : k ≡ i = eqb-true k i e in omega (arith, past, here))
    by false e true f false g = absurd (let past : i + 1 ≤ k = ltb-false k (i + 1) g in let low : k < i = ltb-true k i f in omega (arith, past, low))
    by false e false f true g = absurd (eqb-false k i e (let past : i ≤ k = ltb-false k i f in let low : k < i + 1 = ltb-true k (i + 1) g in omega (arith, past, low)))

pub with_next : (test : ℕ → Bool) (i : ℕ) → i < 8 → test i ≡ true → slice_set (set_where (up_to test i)) i true ≡ set_where (up_to test (i + 1))
with_next test i h e = ap (slice_set (set_where (up_to test i)) i) (sym e) ∙ set_at (up_to test i) i (test i) h ∙ (λ j. set_where (λ k. before_next test i k j))

pub without_next : (test : ℕ → Bool) (i : ℕ) → i < 8 → test i ≡ false → set_where (up_to test i) ≡ set_where (up_to test (i + 1))
without_next test i h e = (λ j. set_where (λ k. sym (by k (nat_eq k i) refl) j)) ∙ (λ j. set_where (λ k. before_next test i k j))
  where
    by : (k : ℕ) (same : Bool) → nat_eq k i ≡ same → cond (nat_eq k i) (test i) (up_to test i k) ≡ up_to test i k
    by k true here = ap (λ (b : Bool). cond b (test i) (up_to test i k)) here ∙ e ∙ sym (ap (λ (b : Bool). b && test k) (let low : nat_lt k i ≡ false = le-ltb k i (let at : k ≡ i = eqb-true k i here in omega (arith, at)) in low))
    by k false there = ap (λ (b : Bool). cond b (test i) (up_to test i k)) there

pub all_of : (test : ℕ → Bool) → set_where (up_to test 8) ≡ set_where test
all_of test = refl

pub none_of : (test : ℕ → Bool) → set_where (up_to test 0) ≡ set_where (λ _. false)
none_of test = refl
