-- Each step on the seats keeps the rule.
use Rattle.std.proofs.Common.{◌≡◌, ◌≢◌, ℕ, zero, suc, ◌+◌, ◌<◌, ◌≤◌, ◌==◌, true, cond, List, [], ◌∷◌, ◌++◌, take, drop, set, refl, ap, sym, subst, arith, eq-eqb, ne_eqb, ⊎_elim}
use native.Mathlib.Decide.{ℕ_discrete}
use mathlib.Core.Option.{some, some-injective, some-ne-none}
use lib.ListN.{get_elem?}
use Rattle.atomic_table.specs.Table.{State, Me, Splits, Joins, Allows, keeps}
use Rattle.atomic_table.proofs.Lists.{at_set, set_again}
use Rattle.sb_desk.specs.Seats.{times, times_in, NoneTwice, from, below, first_of, rest_of, block_of, past_block}

pub times-append : (n : ℕ) (xs ys : List ℕ) → times n (xs ++ ys) ≡ times n xs + times n ys
times-append n [] ys = omega arith
times-append n (x ∷ xs) ys = omega (arith, times-append n xs ys)

pub times_in-append : (n : ℕ) (vs ws : List (List ℕ)) → times_in n (vs ++ ws) ≡ times_in n vs + times_in n ws
times_in-append n [] ws = omega arith
times_in-append n (v ∷ vs) ws = omega (arith, times_in-append n vs ws)

-- one list is exchanged
pub times_in-set : (n : ℕ) (vs : List (List ℕ)) (id : ℕ) (v w : List ℕ) → get_elem? vs id ≡ some v → times_in n (set vs id w) + times n v ≡ times_in n vs + times n w
times_in-set n [] id v w e = absurd (some-ne-none v (sym e))
times_in-set n (u ∷ us) zero v w e = let s : times n u ≡ times n v = ap (times n) (some-injective u v e) in omega arith
times_in-set n (u ∷ us) (suc id) v w e = let r = times_in-set n us id v w e in omega arith

-- the list of one seat is a part of all
pub times_in-at : (n : ℕ) (vs : List (List ℕ)) (id : ℕ) (v : List ℕ) → get_elem? vs id ≡ some v → times n v ≤ times_in n vs
times_in-at n [] id v e = absurd (some-ne-none v (sym e))
times_in-at n (u ∷ us) zero v e = let s : times n u ≡ times n v = ap (times n) (some-injective u v e) in omega arith
times_in-at n (u ∷ us) (suc id) v e = omega (arith, times_in-at n us id v e)

times-cut : (n : ℕ) (v : List ℕ) → times n (rest_of v) + times n (first_of v) ≡ times n v
times-cut n [] = refl
times-cut n (x ∷ xs) = omega arith

times-cut_at : (n k : ℕ) (v : List ℕ) → times n (drop k v) + times n (take k v) ≡ times n v
times-cut_at n zero v = omega arith
times-cut_at n (suc k) [] = refl
times-cut_at n (suc k) (x ∷ xs) = omega (arith, times-cut_at n k xs)

-- a list is cut in two
cuts_in : (id : ℕ) (v left right : List ℕ) → ((n : ℕ) → times n left + times n right ≡ times n v) → Splits (λ (s : State (Unit {0}) (List ℕ)). NoneTwice s.views) id v left right
cuts_in id v left right cut s holds at n =
    let a = times_in-append n (set s.views id left) (right ∷ []) in
    let b = times_in-set n s.views id v left at in
    let c = cut n in
    let h : times_in n s.views ≤ 1 = holds n in
    omega arith

pub cuts : (id : ℕ) (v : List ℕ) → Splits (λ (s : State (Unit {0}) (List ℕ)). NoneTwice s.views) id v (rest_of v) (first_of v)
cuts id v = cuts_in id v (rest_of v) (first_of v) (λ n. times-cut n v)

pub cuts_block : (id : ℕ) (v : List ℕ) → Splits (λ (s : State (Unit {0}) (List ℕ)). NoneTwice s.views) id v (past_block v) (block_of v)
cuts_block id v = cuts_in id v (past_block v) (block_of v) (λ n. times-cut_at n 2048 v)

pub joins : (id : ℕ) (v : List ℕ) (other : ℕ) (w : List ℕ) → Joins (λ (s : State (Unit {0}) (List ℕ)). NoneTwice s.views) id v other w (v ++ w) []
joins id v other w s holds at apart there n =
    let was : get_elem? s.views other ≡ some w = ⊎_elim (λ (t : (other ≡ id) × ((v ++ w) ≡ w)). absurd (apart t.0)) (λ (t : (other ≢ id) × (get_elem? s.views other ≡ some w)). t.1) (at_set s.views id other (v ++ w) w there) in
    let a = times_in-set n s.views id v (v ++ w) at in
    let b = times_in-set n (set s.views id (v ++ w)) other w [] there in
    let c = times-append n v w in
    let h : times_in n s.views ≤ 1 = holds n in
    omega arith

from-above : (n k count : ℕ) → n < k → times n (from k count) ≡ 0
unfolding from
from-above n k zero h = refl
from-above n k (suc count) h = rw (ne_eqb k n (λ e. omega arith)) (omega (arith, from-above n (suc k) count (omega arith)))

from-once : (n k count : ℕ) → times n (from k count) ≤ 1
unfolding from
from-once n k zero = omega arith
from-once n k (suc count) = by_case (ℕ_discrete k n) (from-once n (suc k) count)
  where
    by_case : Dec (k ≡ n) → times n (from (suc k) count) ≤ 1 → cond (k == n) 1 0 + times n (from (suc k) count) ≤ 1
    by_case (yes e) r = rw (eq-eqb k n e) (omega (arith, from-above n (suc k) count (omega arith)))
    by_case (no e) r = rw (ne_eqb k n e) (omega arith)

pub begins : (count : ℕ) → NoneTwice (below count ∷ [])
begins count n = omega (arith, from-once n 0 count)

pub looks : (slots id : ℕ) (me : Me (Unit {0}) (List ℕ)) (i : ℕ) → Allows (λ (s : State (Unit {0}) (List ℕ)). NoneTwice s.views) slots id me i (λ n. n) (λ _ after. (after ≡ me) × NoneTwice (me.0 ∷ []))
looks slots id me i s holds homes at fits = (
  me.0,
  keeps,
  tt,
  subst NoneTwice (sym (set_again s.views id me.0 at)) holds,
  (refl, λ n. omega (arith, times_in-at n s.views id me.0 at, holds n)),
)

pub twice : (n : ℕ) → NoneTwice ((n ∷ n ∷ []) ∷ []) → ⊥
twice n h = let k = h n in let e : (n == n) ≡ true = eq-eqb n n refl in absurd (omega (arith, rw e at k))
