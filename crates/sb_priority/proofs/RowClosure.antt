-- The closure of pairs with those of a row more.
use Rattle.std.proofs.Common.{◌≡◌, ◌∙◌, ℕ, zero, suc, ◌+◌, ◌<◌, ◌≤◌, Bool, true, false, cond, ◌&&◌, ◌||◌, ◌==◌, nat_lt, List, ◌∷◌, ◌++◌, length, refl, sym, ap, arith, eqb-true}
use Rattle.std.proofs.Math.Bool.{and-false, or-false}
use Rattle.sb_value.specs.Flags.{flag_at}
use Rattle.sb_value.specs.Order.{precedes}
use Rattle.sb_priority.specs.Closed.{has_pair, row_pairs, is_led}
use Rattle.std.proofs.lemmas.Bool.{ltb-true}
use Rattle.sb_priority.proofs.RowLaws.{below_next, all_bits}
use Rattle.sb_priority.proofs.Tests.{not_true}

-- pab: a precedes b; t: the rows so far lead from a, ts: from the second rule; e: a is the rule; p: a precedes it; sx, ps: the second does;
-- r: the second rule is b; q: it precedes b
one_row : (pab t ts e p es ps r q : Bool) → ((pab || (t && (r || q))) || ((e || (p || (t && (es || ps)))) && (r || (q || (ts && (r || q)))))) ≡ (pab || ((t || (e || p)) && (r || q)))
one_row true t ts e p es ps r q = refl
one_row false true ts e p es ps true q = refl
one_row false true ts e p es ps false true = refl
one_row false true true e p es ps false false = none (e || (p || (true && (es || ps))))
  where
    none : (x : Bool) → (x && false) ≡ false
    none true = refl
    none false = refl
one_row false true false e p es ps false false = none (e || (p || (true && (es || ps))))
  where
    none : (x : Bool) → (x && false) ≡ false
    none true = refl
    none false = refl
one_row false false ts true p es ps true q = refl
one_row false false ts true p es ps false true = refl
one_row false false true true p es ps false false = refl
one_row false false false true p es ps false false = refl
one_row false false ts false true es ps true q = refl
one_row false false ts false true es ps false true = refl
one_row false false true false true es ps false false = refl
one_row false false false false true es ps false false = refl
one_row false false ts false false es ps r q = refl

-- with the pairs of a row more, what reaches one of the row precedes what the second rule reaches
pub row_closed : (row : ℕ → Bool) (s : ℕ) (pairs : List (ℕ × ℕ)) (n a b : ℕ) →
    precedes (row_pairs row s n ++ pairs) a b ≡ (precedes pairs a b || (is_led row (precedes pairs a) a n && ((s == b) || precedes pairs s b)))
unfolding row_pairs is_led
row_closed row s pairs zero a b = sym (or-false (precedes pairs a b))
row_closed row s pairs (suc n) a b = by (row n) refl (row_closed row s pairs n)
  where
    led : ℕ → Bool
    led c = is_led row (precedes pairs c) c n

    by : (has : Bool) → row n ≡ has → ((c d : ℕ) → precedes (row_pairs row s n ++ pairs) c d ≡ (precedes pairs c d || (led c && ((s == d) || precedes pairs s d)))) →
        precedes (cond has ((n, s) ∷ row_pairs row s n) (row_pairs row s n) ++ pairs) a b ≡ (precedes pairs a b || ((led a || (has && ((a == n) || precedes pairs a n))) && ((s == b) || precedes pairs s b)))
    by true e rest =
        (λ i. rest a b i || (((a == n) || rest a n i) && ((s == b) || rest s b i)))
        ∙ one_row (precedes pairs a b) (led a) (led s) (a == n) (precedes pairs a n) (s == n) (precedes pairs s n) (s == b) (precedes pairs s b)
    by false e rest = rest a b ∙ (λ i. precedes pairs a b || (sym (or-false (led a)) i && ((s == b) || precedes pairs s b)))

-- the pairs of a row that has no rules past n are all of it
in_row : (row : ℕ → Bool) (s n a b : ℕ) → has_pair (row_pairs row s n) a b ≡ (nat_lt a n && (row a && (s == b)))
unfolding row_pairs
in_row row s zero a b = sym (ap (λ t. t && (row a && (s == b))) (not_true (nat_lt a 0) (λ e. absurd (let low : a < 0 = ltb-true a 0 e in omega (arith, low)))))
in_row row s (suc n) a b = by (row n) refl (in_row row s n a b)
  where
    taken : (x y : Bool) → (y || (x && y)) ≡ ((x || true) && y)
    taken true true = refl
    taken true false = refl
    taken false true = refl
    taken false false = refl

    bits : (lt e fa fn t : Bool) → (e ≡ true → fn ≡ fa) → ((fn && (e && t)) || (lt && (fa && t))) ≡ ((lt || e) && (fa && t))
    bits lt true fa fn t h = (λ i. (h refl i && t) || (lt && (fa && t))) ∙ taken lt (fa && t)
    bits lt false fa fn t h = (λ i. and-false fn i || (lt && (fa && t))) ∙ (λ i. sym (or-false lt) i && (fa && t))

    has_cond : (has : Bool) → has_pair (cond has ((n, s) ∷ row_pairs row s n) (row_pairs row s n)) a b ≡ ((has && ((n == a) && (s == b))) || has_pair (row_pairs row s n) a b)
    has_cond true = refl
    has_cond false = refl

    by : (has : Bool) → row n ≡ has → has_pair (row_pairs row s n) a b ≡ (nat_lt a n && (row a && (s == b))) → has_pair (cond has ((n, s) ∷ row_pairs row s n) (row_pairs row s n)) a b ≡ (nat_lt a (suc n) && (row a && (s == b)))
    by has e rest =
        has_cond has
        ∙ (λ i. (sym e i && ((n == a) && (s == b))) || rest i)
        ∙ bits (nat_lt a n) (n == a) (row a) (row n) (s == b) (λ q. ap row (eqb-true n a q))
        ∙ (λ i. sym (below_next a n) i && (row a && (s == b)))
        ∙ (λ i. nat_lt a (let up : n + 1 ≡ suc n = omega arith in up i) && (row a && (s == b)))

pub in_row_set : (row : List Bool) (s n a b : ℕ) → length row ≤ n → has_pair (row_pairs (flag_at row) s n) a b ≡ (flag_at row a && (s == b))
in_row_set row s n a b long = in_row (flag_at row) s n a b ∙ all_bits row n a (s == b) long

-- one rule more is looked at
pub led_next : (row before : ℕ → Bool) (a n : ℕ) (now next : Bool) → now ≡ is_led row before a n → next ≡ (now || (row n && ((a == n) || before n))) → next ≡ is_led row before a (n + 1)
unfolding is_led
led_next row before a n now next is step = step ∙ (λ i. is i || (row n && ((a == n) || before n))) ∙ (λ i. is_led row before a (let up : suc n ≡ n + 1 = omega arith in up i))
