-- The seats of a cell are split off in the order of their numbers.
use Rattle.std.proofs.Common.{◌≡◌, ℕ, zero, suc, ◌+◌, ◌-◌, ◌*◌, ◌<◌, false, List, [], ◌∷◌, ◌++◌, length, take, drop, get_or, Option, Some, None, refl, ap, sym, ◌∙◌, arith, length-append}
use native.Mathlib.Decide.{ℕ_discrete}
use Rattle.atomic_table.specs.Seated.{TableId}
use Rattle.sb_desk.specs.Kept.{AreDealt, SeatAt}
use Rattle.sb_desk.specs.Seats.{IsSeat, SessionSeat, block_of, first_of, from, past_block, rest_of}
use Rattle.sb_host.specs.Opening.{left_at, left_in}

-- ---- one seat

from-more : (k n : ℕ) → from k (suc n) ≡ k ∷ from (suc k) n
unfolding from
from-more k n = refl

left_more : (k n : ℕ) → n < 2048 → left_in k n ≡ (2048 * k + n) ∷ left_in k (n + 1)
left_more k n h =
    let more : 2048 - n ≡ suc (2048 - (n + 1)) = omega arith in
    let next : suc (2048 * k + n) ≡ 2048 * k + (n + 1) = omega arith in
    ap (from (2048 * k + n)) more ∙ from-more (2048 * k + n) (2048 - (n + 1)) ∙ ap (λ (j : ℕ). (2048 * k + n) ∷ from j (2048 - (n + 1))) next

pub first_left : (k n : ℕ) → n < 2048 → first_of (left_in k n) ≡ (2048 * k + n) ∷ []
first_left k n h = ap first_of (left_more k n h)

pub rest_left : (k n : ℕ) → n < 2048 → rest_of (left_in k n) ≡ left_in k (n + 1)
rest_left k n h = ap rest_of (left_more k n h)

get_or-front : {A : Type 0} (xs : List A) (x d : A) (i : ℕ) → i < length xs → get_or (xs ++ x ∷ []) i d ≡ get_or xs i d
get_or-front [] x d i h = absurd (omega arith)
get_or-front (y ∷ ys) x d zero h = refl
get_or-front (y ∷ ys) x d (suc i) h = get_or-front ys x d i (omega arith)

get_or-last : {A : Type 0} (xs : List A) (x d : A) (i : ℕ) → i ≡ length xs → get_or (xs ++ x ∷ []) i d ≡ x
get_or-last [] x d zero h = refl
get_or-last [] x d (suc i) h = absurd (omega arith)
get_or-last (y ∷ ys) x d zero h = absurd (omega arith)
get_or-last (y ∷ ys) x d (suc i) h = get_or-last ys x d i (omega arith)

pub dealt-more : (z : TableId) (cell n : ℕ) (seats : List (Option SessionSeat)) (s : SessionSeat) → AreDealt z cell n seats → IsSeat z (2048 * cell + n) s → AreDealt z cell (n + 1) (seats ++ Some s ∷ [])
dealt-more z cell n seats s h mine = (let all = length-append seats (Some s ∷ []) in let before = h.0 in omega (arith, all, before), λ k b. by_case k b (ℕ_discrete k n))
  where
    by_case : (k : ℕ) → k < n + 1 → Dec (k ≡ n) → SeatAt z (2048 * cell + k) false (get_or (seats ++ Some s ∷ []) k None)
    by_case k b (yes e) = rw (get_or-last seats (Some s) None k (e ∙ sym h.0), e) mine
    by_case k b (no e) = rw (get_or-front seats (Some s) None k (let before = h.0 in omega (arith, before))) (h.1 k (omega arith))

-- ---- the block of a cell

take-from : (n k m : ℕ) → take n (from k (n + m)) ≡ from k n
unfolding from
take-from zero k m = refl
take-from (suc n) k m =
    let more : suc n + m ≡ suc (n + m) = omega arith in
    ap (λ (j : ℕ). take (suc n) (from k j)) more ∙ ap (λ (l : List ℕ). k ∷ l) (take-from n (suc k) m)

drop-from : (n k m : ℕ) → drop n (from k (n + m)) ≡ from (k + n) m
unfolding from
drop-from zero k m = let here : k ≡ k + 0 = omega arith in let all : 0 + m ≡ m = omega arith in (λ i. from (here i) (all i))
drop-from (suc n) k m =
    let more : suc n + m ≡ suc (n + m) = omega arith in
    let next : suc k + n ≡ k + suc n = omega arith in
    ap (λ (j : ℕ). drop (suc n) (from k j)) more ∙ drop-from n (suc k) m ∙ ap (λ (j : ℕ). from j m) next

pub block_left : (i : ℕ) → i < 16 → block_of (left_at i) ≡ left_in i 0
block_left i h =
    let rest : 32768 - 2048 * i ≡ 2048 + (32768 - 2048 * (i + 1)) = omega arith in
    let here : 2048 * i ≡ 2048 * i + 0 = omega arith in
    ap (λ (j : ℕ). block_of (from (2048 * i) j)) rest ∙ take-from 2048 (2048 * i) (32768 - 2048 * (i + 1)) ∙ ap (λ (j : ℕ). from j 2048) here

pub past_left : (i : ℕ) → i < 16 → past_block (left_at i) ≡ left_at (i + 1)
past_left i h =
    let rest : 32768 - 2048 * i ≡ 2048 + (32768 - 2048 * (i + 1)) = omega arith in
    let next : 2048 * i + 2048 ≡ 2048 * (i + 1) = omega arith in
    ap (λ (j : ℕ). past_block (from (2048 * i) j)) rest ∙ drop-from 2048 (2048 * i) (32768 - 2048 * (i + 1)) ∙ ap (λ (j : ℕ). from j (32768 - 2048 * (i + 1))) next
