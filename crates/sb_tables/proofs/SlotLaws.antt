-- What a table's rows become where a slot is written, added, or taken away.
use Rattle.std.proofs.Common.{◌≡◌, ℕ, zero, suc, ◌+◌, ◌<◌, ◌≤◌, true, false, cond, not, ◌==◌, ◌&&◌, ◌||◌, List, [], ◌∷◌, ◌++◌, filter, length, take, drop, set, get_or, Option, Some, None, IsSome, IsTrue, refl, sym, ◌∙◌, ap, subst, arith}
use Rattle.std.specs.Prelude.{find, option_map, nat_lt}
use Rattle.std.specs.List.{list_any}
use Rattle.std.proofs.lemmas.Bool.{eqb-true, eq-eqb, ne_eqb, lt-ltb, false≢true}
use Rattle.std.proofs.lemmas.List.{same_from_push, append-nil, map_push}
use Rattle.sb_value.specs.declared.value.Value.{Value}
use Rattle.sb_tables.specs.declared.slot.Slot.{Slot}
use Rattle.sb_tables.specs.Rising.{Rises, AllBelow, AllFrom}
use Rattle.sb_tables.specs.Slots.{numbers, live_rows}
use Rattle.sb_tables.specs.Stored.{numbers_of, HavePlaces, put}
use Rattle.sb_tables.proofs.RisingLaws.{rises_at, rises_lower, rises_front}
use Rattle.sb_tables.proofs.RowLaws.{Numbered, row_of, others, others_above, none_above, put_above}

abbrev live_then : Slot → List Numbered → List Numbered
live_then s rows = cond s.live ((s.number, s.row) ∷ rows) rows

pub live_rises : (low : ℕ) (ss : List Slot) (high : ℕ) → Rises low (numbers ss) high → Rises low (numbers_of (live_rows ss)) high
live_rises low [] high h = h
live_rises low (s ∷ ss) high h =
    let a : low ≤ s.number = h.0 in let rest = live_rises (s.number + 1) ss high h.1 in
    elim s.live as (λ b. Rises low (numbers_of (cond b ((s.number, s.row) ∷ live_rows ss) (live_rows ss))) high) [
      | true ↦ (a, rest)
      | false ↦ rises_lower (s.number + 1) low (numbers_of (live_rows ss)) high (omega arith) rest
    ]

pub live-append : (xs ys : List Slot) → live_rows (xs ++ ys) ≡ live_rows xs ++ live_rows ys
live-append [] ys = refl
live-append (s ∷ xs) ys =
    elim s.live as (λ b. cond b ((s.number, s.row) ∷ live_rows (xs ++ ys)) (live_rows (xs ++ ys)) ≡ cond b ((s.number, s.row) ∷ live_rows xs) (live_rows xs) ++ live_rows ys) [
      | true ↦ ap (λ l. (s.number, s.row) ∷ l) (live-append xs ys)
      | false ↦ live-append xs ys
    ]

pub live_at_most : (ss : List Slot) → length (live_rows ss) ≤ length ss
live_at_most [] = omega arith
live_at_most (s ∷ ss) =
    let rest = live_at_most ss in
    elim s.live as (λ b. length (cond b ((s.number, s.row) ∷ live_rows ss) (live_rows ss)) ≤ suc (length ss)) [ true ↦ omega arith | false ↦ omega arith ]

pub length-numbers : (ss : List Slot) → length (numbers ss) ≡ length ss
length-numbers [] = refl
length-numbers (s ∷ ss) = ap suc (length-numbers ss)

pub numbers-set : (ss : List Slot) (i : ℕ) (t : Slot) → t.number ≡ get_or (numbers ss) i 0 → numbers (set ss i t) ≡ numbers ss
numbers-set [] i t e = refl
numbers-set (s ∷ ss) zero t e = ap (λ n. n ∷ numbers ss) e
numbers-set (s ∷ ss) (suc i) t e = ap (λ l. s.number ∷ l) (numbers-set ss i t e)

-- a slot that becomes a deleted one
pub live-mark : (low : ℕ) (ss : List Slot) (high n i : ℕ) (t : Slot) → t.live ≡ false → Rises low (numbers ss) high → i < length ss → get_or (numbers ss) i 0 ≡ n → live_rows (set ss i t) ≡ others n (live_rows ss)
live-mark low [] high n i t dead h lt e = absurd (omega arith)
live-mark low (s ∷ ss) high n zero t dead h lt e =
    let above : others n (live_rows ss) ≡ live_rows ss = others_above n (s.number + 1) (live_rows ss) high (live_rises (s.number + 1) ss high h.1) (omega arith) in
    ap (λ b. cond b ((t.number, t.row) ∷ live_rows ss) (live_rows ss)) dead ∙ sym above
    ∙ (elim s.live as (λ b. others n (live_rows ss) ≡ others n (cond b ((s.number, s.row) ∷ live_rows ss) (live_rows ss))) [
      | true ↦ sym (ap (λ b. cond (not b) ((s.number, s.row) ∷ others n (live_rows ss)) (others n (live_rows ss))) (eq-eqb s.number n e))
      | false ↦ refl
    ])
live-mark low (s ∷ ss) high n (suc i) t dead h lt e =
    let a : s.number + 1 ≤ get_or (numbers ss) i 0 = rises_at (s.number + 1) (numbers ss) high i 0 h.1 (omega (arith, length-numbers ss)) in
    let other : (s.number == n) ≡ false = ne_eqb s.number n (omega arith) in
    let rest = live-mark (s.number + 1) ss high n i t dead h.1 (omega arith) e in
    elim s.live as (λ b. cond b ((s.number, s.row) ∷ live_rows (set ss i t)) (live_rows (set ss i t)) ≡ others n (cond b ((s.number, s.row) ∷ live_rows ss) (live_rows ss))) [
      | true ↦ ap (λ l. (s.number, s.row) ∷ l) rest ∙ sym (ap (λ b. cond (not b) ((s.number, s.row) ∷ others n (live_rows ss)) (others n (live_rows ss))) other)
      | false ↦ rest
    ]

-- a slot that takes a row
pub live-put : (low : ℕ) (ss : List Slot) (high n i : ℕ) (row : List Value) (t : Slot) → t.live ≡ true → t.number ≡ n → t.row ≡ row → Rises low (numbers ss) high → i < length ss → get_or (numbers ss) i 0 ≡ n → live_rows (set ss i t) ≡ put n row (live_rows ss)
live-put low [] high n i row t live named rowed h lt e = absurd (omega arith)
live-put low (s ∷ ss) high n zero row t live named rowed h lt e =
    let rest = live_rises (s.number + 1) ss high h.1 in
    ap (λ b. cond b ((t.number, t.row) ∷ live_rows ss) (live_rows ss)) live ∙ (λ j. (named j, rowed j) ∷ live_rows ss)
    ∙ (elim s.live as (λ b. (n, row) ∷ live_rows ss ≡ put n row (cond b ((s.number, s.row) ∷ live_rows ss) (live_rows ss))) [
      | true ↦ sym (ap (λ b. cond b ((n, row) ∷ live_rows ss) (cond (nat_lt s.number n) ((s.number, s.row) ∷ put n row (live_rows ss)) ((n, row) ∷ (s.number, s.row) ∷ live_rows ss))) (eq-eqb s.number n e))
      | false ↦ sym (put_above n (s.number + 1) row (live_rows ss) high rest (omega arith))
    ])
live-put low (s ∷ ss) high n (suc i) row t live named rowed h lt e =
    let a : s.number + 1 ≤ get_or (numbers ss) i 0 = rises_at (s.number + 1) (numbers ss) high i 0 h.1 (omega (arith, length-numbers ss)) in
    let other : (s.number == n) ≡ false = ne_eqb s.number n (omega arith) in
    let less : nat_lt s.number n ≡ true = lt-ltb s.number n (omega arith) in
    let rest = live-put (s.number + 1) ss high n i row t live named rowed h.1 (omega arith) e in
    elim s.live as (λ b. cond b ((s.number, s.row) ∷ live_rows (set ss i t)) (live_rows (set ss i t)) ≡ put n row (cond b ((s.number, s.row) ∷ live_rows ss) (live_rows ss))) [
      | true ↦ ap (λ l. (s.number, s.row) ∷ l) rest
          ∙ sym (ap (λ b. cond b ((n, row) ∷ live_rows ss) (cond (nat_lt s.number n) ((s.number, s.row) ∷ put n row (live_rows ss)) ((n, row) ∷ (s.number, s.row) ∷ live_rows ss))) other
          ∙ ap (λ b. cond b ((s.number, s.row) ∷ put n row (live_rows ss)) ((n, row) ∷ (s.number, s.row) ∷ live_rows ss)) less)
      | false ↦ rest
    ]

-- a slot that takes a row counts one more, if it was deleted
pub length-live_set : (ss : List Slot) (i : ℕ) (t d : Slot) → t.live ≡ true → i < length ss → length (live_rows (set ss i t)) ≡ cond (get_or ss i d).live (length (live_rows ss)) (length (live_rows ss) + 1)
length-live_set [] i t d live lt = absurd (omega arith)
length-live_set (s ∷ ss) zero t d live lt =
    ap (λ b. length (cond b ((t.number, t.row) ∷ live_rows ss) (live_rows ss))) live
    ∙ (elim s.live as (λ b. suc (length (live_rows ss)) ≡ cond b (length (cond b ((s.number, s.row) ∷ live_rows ss) (live_rows ss))) (length (cond b ((s.number, s.row) ∷ live_rows ss) (live_rows ss)) + 1)) [
      | true ↦ refl
      | false ↦ omega arith
    ])
length-live_set (s ∷ ss) (suc i) t d live lt =
    let rest = length-live_set ss i t d live (omega arith) in
    elim s.live as (λ b. length (cond b ((s.number, s.row) ∷ live_rows (set ss i t)) (live_rows (set ss i t))) ≡ cond (get_or ss i d).live (length (cond b ((s.number, s.row) ∷ live_rows ss) (live_rows ss))) (length (cond b ((s.number, s.row) ∷ live_rows ss) (live_rows ss)) + 1)) [
      | true ↦ ap suc rest ∙ (elim (get_or ss i d).live as (λ b. suc (cond b (length (live_rows ss)) (length (live_rows ss) + 1)) ≡ cond b (suc (length (live_rows ss))) (suc (length (live_rows ss)) + 1)) [ true ↦ refl | false ↦ omega arith ])
      | false ↦ rest
    ]

-- ---- looking a row up

abbrev pub row_if : ℕ → Slot → Option (List Value)
row_if n s = cond (s.live && (s.number == n)) (Some s.row) None

pub row-at : (low : ℕ) (ss : List Slot) (high n i : ℕ) (d : Slot) → Rises low (numbers ss) high → AllBelow n (take i (numbers ss)) → AllFrom n (drop i (numbers ss)) → i < length ss → row_of n (live_rows ss) ≡ row_if n (get_or ss i d)
row-at low [] high n i d h b f lt = absurd (omega arith)
row-at low (s ∷ ss) high n zero d h b f lt =
    let from : n ≤ s.number = f.0 in
    let none : row_of n (live_rows ss) ≡ None = none_above n (s.number + 1) (live_rows ss) high (live_rises (s.number + 1) ss high h.1) (omega arith) in
    elim s.live as (λ b. row_of n (cond b ((s.number, s.row) ∷ live_rows ss) (live_rows ss)) ≡ cond (b && (s.number == n)) (Some s.row) None) [
      | true ↦ elim (s.number == n) as (λ b. option_map (λ q. q.1) (cond b (let q : Option Numbered = Some (s.number, s.row) in q) (find (λ q. q.0 == n) (live_rows ss))) ≡ cond b (Some s.row) None) [ true ↦ refl | false ↦ none ]
      | false ↦ none
    ]
row-at low (s ∷ ss) high n (suc i) d h b f lt =
    let below : s.number < n = b.0 in
    let other : (s.number == n) ≡ false = ne_eqb s.number n (omega arith) in
    let rest = row-at (s.number + 1) ss high n i d h.1 b.1 f (omega arith) in
    elim s.live as (λ b. row_of n (cond b ((s.number, s.row) ∷ live_rows ss) (live_rows ss)) ≡ row_if n (get_or ss i d)) [
      | true ↦ ap (λ b. option_map (λ q. q.1) (cond b (let q : Option Numbered = Some (s.number, s.row) in q) (find (λ q. q.0 == n) (live_rows ss)))) other ∙ rest
      | false ↦ rest
    ]

abbrev pub Has : List ℕ → ℕ → Type 0
Has ns n = (k : ℕ) × (k < length ns) × (get_or ns k n ≡ n)

has_more : (ns : List ℕ) (m n : ℕ) → Has ns n → Has (m ∷ ns) n
has_more ns m n (k, lt, e) = (suc k, omega arith, e)

-- a row that is there has a slot
pub has_slot : (ss : List Slot) (n : ℕ) → IsSome (row_of n (live_rows ss)) → Has (numbers ss) n
has_slot [] n h = absurd (false≢true h)
has_slot (s ∷ ss) n h =
    elim s.live as (λ b. IsSome (row_of n (cond b ((s.number, s.row) ∷ live_rows ss) (live_rows ss))) → Has (numbers (s ∷ ss)) n) [
      | true ↦ λ h. elim (s.number == n) as (λ b. (s.number == n) ≡ b → IsSome (option_map (λ q. q.1) (cond b (let q : Option Numbered = Some (s.number, s.row) in q) (find (λ q. q.0 == n) (live_rows ss)))) → Has (numbers (s ∷ ss)) n) [
        | true ↦ λ e _. (0, omega arith, eqb-true s.number n e)
        | false ↦ λ _ h. has_more (numbers ss) s.number n (has_slot ss n h)
      ] refl h
      | false ↦ λ h. has_more (numbers ss) s.number n (has_slot ss n h)
    ] h

-- ---- the last slot

last_number : (low : ℕ) (rows : List Numbered) (m high : ℕ) (row : List Value) → Rises low (numbers_of (rows ++ (m, row) ∷ [])) high → m < high
last_number low [] m high row h = let a : m + 1 ≤ high = h.1 in omega arith
last_number low (r ∷ rows) m high row h = last_number (r.0 + 1) rows m high row h.1

-- the slot of the newest row is the last one
pub live-last : (ss : List Slot) (s : Slot) (rows : List Numbered) (m : ℕ) (row : List Value) → Rises 0 (numbers (ss ++ s ∷ [])) (m + 1) → live_rows (ss ++ s ∷ []) ≡ rows ++ (m, row) ∷ [] → (live_rows ss ≡ rows) × (s.number ≡ m)
live-last ss s rows m row h e =
    let front = rises_front 0 (numbers ss) s.number (m + 1) (subst (λ ns. Rises 0 ns (m + 1)) (map_push (λ s. s.number) ss s) h) in
    let below : s.number < m + 1 = front.1 in
    elim s.live as (λ b. live_rows ss ++ cond b ((s.number, s.row) ∷ []) [] ≡ rows ++ (m, row) ∷ [] → (live_rows ss ≡ rows) × (s.number ≡ m)) [
      | true ↦ λ e. let same = same_from_push (live_rows ss) rows (s.number, s.row) (m, row) e in (same.0, ap (λ r. r.0) same.1)
      | false ↦ λ e.
          let all : live_rows ss ≡ rows ++ (m, row) ∷ [] = sym (append-nil (live_rows ss)) ∙ e in
          let less : m < s.number = last_number 0 rows m s.number row (subst (λ l. Rises 0 (numbers_of l) s.number) all (live_rises 0 ss s.number front.0)) in
          absurd (omega arith)
    ] (sym (live-append ss (s ∷ [])) ∙ e)

-- ---- settling

abbrev pub live_slots : List Slot → List Slot
live_slots ss = filter (λ s. s.live) ss

pub live-live : (ss : List Slot) → live_rows (live_slots ss) ≡ live_rows ss
live-live [] = refl
live-live (s ∷ ss) =
    elim s.live as (λ b. s.live ≡ b → live_rows (cond b (s ∷ live_slots ss) (live_slots ss)) ≡ cond b ((s.number, s.row) ∷ live_rows ss) (live_rows ss)) [
      | true ↦ λ e. ap (λ b. cond b ((s.number, s.row) ∷ live_rows (live_slots ss)) (live_rows (live_slots ss))) e ∙ ap (λ l. (s.number, s.row) ∷ l) (live-live ss)
      | false ↦ λ _. live-live ss
    ] refl

pub numbers-live : (ss : List Slot) → numbers (live_slots ss) ≡ numbers_of (live_rows ss)
numbers-live [] = refl
numbers-live (s ∷ ss) =
    elim s.live as (λ b. numbers (cond b (s ∷ live_slots ss) (live_slots ss)) ≡ numbers_of (cond b ((s.number, s.row) ∷ live_rows ss) (live_rows ss))) [
      | true ↦ ap (λ l. s.number ∷ l) (numbers-live ss)
      | false ↦ numbers-live ss
    ]

pub numbers-all_live : (ss : List Slot) → length (live_rows ss) ≡ length ss → numbers ss ≡ numbers_of (live_rows ss)
numbers-all_live [] e = refl
numbers-all_live (s ∷ ss) e =
    elim s.live as (λ b. length (cond b ((s.number, s.row) ∷ live_rows ss) (live_rows ss)) ≡ suc (length ss) → s.number ∷ numbers ss ≡ numbers_of (cond b ((s.number, s.row) ∷ live_rows ss) (live_rows ss))) [
      | true ↦ λ e. ap (λ l. s.number ∷ l) (numbers-all_live ss (omega arith))
      | false ↦ λ e. let most = live_at_most ss in absurd (omega arith)
    ] e

-- ---- each row has a place

places_more : (ns : List ℕ) (m : ℕ) (places : List ℕ) → HavePlaces ns places → HavePlaces ns (m ∷ places)
places_more [] m places h = tt
places_more (n ∷ ns) m places h =
    (elim (m == n) as (λ b. IsTrue (b || list_any (λ k. k == n) places)) [ true ↦ refl | false ↦ h.0 ], places_more ns m places h.1)

pub live_places : (ss : List Slot) → HavePlaces (numbers_of (live_rows ss)) (numbers ss)
live_places [] = tt
live_places (s ∷ ss) =
    let rest = places_more (numbers_of (live_rows ss)) s.number (numbers ss) (live_places ss) in
    elim s.live as (λ b. HavePlaces (numbers_of (cond b ((s.number, s.row) ∷ live_rows ss) (live_rows ss))) (numbers (s ∷ ss))) [
      | true ↦ (ap (λ b. b || list_any (λ k. k == s.number) (numbers ss)) (eq-eqb s.number s.number refl), rest)
      | false ↦ rest
    ]
