-- Rows in rising number: one taken away, replaced, or put in its place.
use Rattle.std.proofs.Common.{◌≡◌, ℕ, suc, ◌+◌, ◌<◌, ◌≤◌, true, false, cond, not, ◌==◌, List, [], ◌∷◌, map, filter, length, Option, Some, None, IsSome, refl, sym, ◌∙◌, ap, subst, arith}
use Rattle.std.specs.Prelude.{find, option_map, nat_lt}
use Rattle.std.proofs.lemmas.Bool.{eqb-true, eq-eqb, ne_eqb, lt-ltb, le-ltb, false≢true}
use Rattle.sb_value.specs.declared.value.Value.{Value}
use Rattle.sb_value.specs.Table.{Table, AreBelow, AreRising, IsTable}
use Rattle.sb_tables.specs.Rising.{Rises}
use Rattle.sb_tables.specs.Stored.{numbers_of, put}
use Rattle.sb_tables.proofs.RisingLaws.{rises_ends}

abbrev pub Numbered : Type 0
Numbered = ℕ × List Value

abbrev pub row_of : ℕ → List Numbered → Option (List Value)
row_of n rows = option_map (λ r. r.1) (find (λ r. r.0 == n) rows)

abbrev pub others : ℕ → List Numbered → List Numbered
others n rows = filter (λ r. not (r.0 == n)) rows

abbrev pub replaced : ℕ → List Value → Numbered → Numbered
replaced n row r = cond (r.0 == n) (n, row) r

-- ---- rows above a number

pub others_above : (n low : ℕ) (rows : List Numbered) (high : ℕ) → Rises low (numbers_of rows) high → n < low → others n rows ≡ rows
others_above n low [] high h lt = refl
others_above n low (r ∷ rows) high h lt =
    let a : low ≤ r.0 = h.0 in let e : (r.0 == n) ≡ false = ne_eqb r.0 n (omega arith) in
    ap (λ b. cond (not b) (r ∷ others n rows) (others n rows)) e ∙ ap (λ l. r ∷ l) (others_above n (r.0 + 1) rows high h.1 (omega arith))

pub replaced_above : (n low : ℕ) (row : List Value) (rows : List Numbered) (high : ℕ) → Rises low (numbers_of rows) high → n < low → map (replaced n row) rows ≡ rows
replaced_above n low row [] high h lt = refl
replaced_above n low row (r ∷ rows) high h lt =
    let a : low ≤ r.0 = h.0 in let e : (r.0 == n) ≡ false = ne_eqb r.0 n (omega arith) in
    ap (λ b. (let q : Numbered = cond b (n, row) r in q) ∷ map (replaced n row) rows) e ∙ ap (λ l. r ∷ l) (replaced_above n (r.0 + 1) row rows high h.1 (omega arith))

pub none_above : (n low : ℕ) (rows : List Numbered) (high : ℕ) → Rises low (numbers_of rows) high → n < low → row_of n rows ≡ None
none_above n low [] high h lt = refl
none_above n low (r ∷ rows) high h lt =
    let a : low ≤ r.0 = h.0 in let e : (r.0 == n) ≡ false = ne_eqb r.0 n (omega arith) in
    ap (λ b. option_map (λ q. q.1) (cond b (Some r) (find (λ q. q.0 == n) rows))) e ∙ none_above n (r.0 + 1) rows high h.1 (omega arith)

pub put_above : (n low : ℕ) (row : List Value) (rows : List Numbered) (high : ℕ) → Rises low (numbers_of rows) high → n < low → put n row rows ≡ (n, row) ∷ rows
put_above n low row [] high h lt = refl
put_above n low row (r ∷ rows) high h lt =
    let a : low ≤ r.0 = h.0 in let e : (r.0 == n) ≡ false = ne_eqb r.0 n (omega arith) in let f : nat_lt r.0 n ≡ false = le-ltb r.0 n (omega arith) in
    ap (λ b. cond b ((n, row) ∷ rows) (cond (nat_lt r.0 n) (r ∷ put n row rows) ((n, row) ∷ r ∷ rows))) e
    ∙ ap (λ b. cond b (r ∷ put n row rows) ((n, row) ∷ r ∷ rows)) f

-- the number of a row that is there isn't below the first
pub row_at_least : (n low : ℕ) (rows : List Numbered) (high : ℕ) → Rises low (numbers_of rows) high → IsSome (row_of n rows) → low ≤ n
row_at_least n low [] high h s = absurd (false≢true s)
row_at_least n low (r ∷ rows) high h s =
    let a : low ≤ r.0 = h.0 in
    elim (r.0 == n) as (λ b. (r.0 == n) ≡ b → IsSome (option_map (λ q. q.1) (cond b (Some r) (find (λ q. q.0 == n) rows))) → low ≤ n) [
      | true ↦ λ e _. let same : r.0 ≡ n = eqb-true r.0 n e in omega arith
      | false ↦ λ _ s. let rest : r.0 + 1 ≤ n = row_at_least n (r.0 + 1) rows high h.1 s in omega arith
    ] refl s

-- ---- one number among rising ones: at the head, or further on

module _ (n : ℕ) (old new : List Value) where
  -- replacing is putting in its place
  pub put-replaces : (low : ℕ) (rows : List Numbered) (high : ℕ) → Rises low (numbers_of rows) high → IsSome (row_of n rows) → put n new rows ≡ map (replaced n new) rows
  put-replaces low [] high h s = absurd (false≢true s)
  put-replaces low (r ∷ rows) high h s =
      elim (r.0 == n) as (λ b. (r.0 == n) ≡ b → IsSome (option_map (λ q. q.1) (cond b (Some r) (find (λ q. q.0 == n) rows)))
      → cond b ((n, new) ∷ rows) (cond (nat_lt r.0 n) (r ∷ put n new rows) ((n, new) ∷ r ∷ rows)) ≡ (let q : Numbered = cond b (n, new) r in q) ∷ map (replaced n new) rows) [
        | true ↦ λ e _. let same : r.0 ≡ n = eqb-true r.0 n e in ap (λ l. (n, new) ∷ l) (sym (replaced_above n (r.0 + 1) new rows high h.1 (omega arith)))
        | false ↦ λ _ s.
            let rest : r.0 + 1 ≤ n = row_at_least n (r.0 + 1) rows high h.1 s in let f : nat_lt r.0 n ≡ true = lt-ltb r.0 n (omega arith) in
            ap (λ b. cond b (r ∷ put n new rows) ((n, new) ∷ r ∷ rows)) f ∙ ap (λ l. r ∷ l) (put-replaces (r.0 + 1) rows high h.1 s)
      ] refl s

  -- a deleted row put back
  pub put-others : (low : ℕ) (rows : List Numbered) (high : ℕ) → Rises low (numbers_of rows) high → row_of n rows ≡ Some old → put n old (others n rows) ≡ rows
  put-others low [] high h s = absurd (false≢true (subst IsSome (sym s) refl))
  put-others low (r ∷ rows) high h s =
      elim (r.0 == n) as (λ b. (r.0 == n) ≡ b → option_map (λ q. q.1) (cond b (Some r) (find (λ q. q.0 == n) rows)) ≡ Some old
      → put n old (cond (not b) (r ∷ others n rows) (others n rows)) ≡ r ∷ rows) [
        | true ↦ λ e s.
            let same : r.0 ≡ n = eqb-true r.0 n e in let row : r.1 ≡ old = cc in
            ap (put n old) (others_above n (r.0 + 1) rows high h.1 (omega arith)) ∙ put_above n (r.0 + 1) old rows high h.1 (omega arith)
            ∙ (λ i. (sym same i, sym row i) ∷ rows)
        | false ↦ λ e s.
            let rest : r.0 + 1 ≤ n = row_at_least n (r.0 + 1) rows high h.1 (subst IsSome (sym s) refl) in let f : nat_lt r.0 n ≡ true = lt-ltb r.0 n (omega arith) in
            ap (λ b. cond b ((n, old) ∷ others n rows) (cond (nat_lt r.0 n) (r ∷ put n old (others n rows)) ((n, old) ∷ r ∷ others n rows))) e
            ∙ ap (λ b. cond b (r ∷ put n old (others n rows)) ((n, old) ∷ r ∷ others n rows)) f
            ∙ ap (λ l. r ∷ l) (put-others (r.0 + 1) rows high h.1 s)
      ] refl s

  -- a replaced row put back
  pub put-replaced : (low : ℕ) (rows : List Numbered) (high : ℕ) → Rises low (numbers_of rows) high → row_of n rows ≡ Some old → put n old (map (replaced n new) rows) ≡ rows
  put-replaced low [] high h s = absurd (false≢true (subst IsSome (sym s) refl))
  put-replaced low (r ∷ rows) high h s =
      elim (r.0 == n) as (λ b. (r.0 == n) ≡ b → option_map (λ q. q.1) (cond b (Some r) (find (λ q. q.0 == n) rows)) ≡ Some old
      → put n old ((let q : Numbered = cond b (n, new) r in q) ∷ map (replaced n new) rows) ≡ r ∷ rows) [
        | true ↦ λ e s.
            let same : r.0 ≡ n = eqb-true r.0 n e in let row : r.1 ≡ old = cc in
            ap (λ b. cond b ((n, old) ∷ map (replaced n new) rows) (cond (nat_lt n n) ((n, new) ∷ put n old (map (replaced n new) rows)) ((n, old) ∷ (n, new) ∷ map (replaced n new) rows))) (eq-eqb n n refl)
            ∙ ap (λ l. (n, old) ∷ l) (replaced_above n (r.0 + 1) new rows high h.1 (omega arith)) ∙ (λ i. (sym same i, sym row i) ∷ rows)
        | false ↦ λ e s.
            let rest : r.0 + 1 ≤ n = row_at_least n (r.0 + 1) rows high h.1 (subst IsSome (sym s) refl) in let f : nat_lt r.0 n ≡ true = lt-ltb r.0 n (omega arith) in
            ap (λ b. cond b ((n, old) ∷ map (replaced n new) rows) (cond (nat_lt r.0 n) (r ∷ put n old (map (replaced n new) rows)) ((n, old) ∷ r ∷ map (replaced n new) rows))) e
            ∙ ap (λ b. cond b (r ∷ put n old (map (replaced n new) rows)) ((n, old) ∷ r ∷ map (replaced n new) rows)) f
            ∙ ap (λ l. r ∷ l) (put-replaced (r.0 + 1) rows high h.1 s)
      ] refl s

pub length-others : (n low : ℕ) (rows : List Numbered) (high : ℕ) → Rises low (numbers_of rows) high → IsSome (row_of n rows) → length (others n rows) + 1 ≡ length rows
length-others n low [] high h s = absurd (false≢true s)
length-others n low (r ∷ rows) high h s =
    elim (r.0 == n) as (λ b. (r.0 == n) ≡ b → IsSome (option_map (λ q. q.1) (cond b (Some r) (find (λ q. q.0 == n) rows)))
    → length (cond (not b) (r ∷ others n rows) (others n rows)) + 1 ≡ suc (length rows)) [
      | true ↦ λ e _. let same : r.0 ≡ n = eqb-true r.0 n e in let all : length (others n rows) ≡ length rows = ap length (others_above n (r.0 + 1) rows high h.1 (omega arith)) in omega arith
      | false ↦ λ _ s. let rest : length (others n rows) + 1 ≡ length rows = length-others n (r.0 + 1) rows high h.1 s in omega arith
    ] refl s

-- ---- tables

rises_on : (low : ℕ) (r : Numbered) (rows : List Numbered) (high : ℕ) → low ≤ r.0 → AreBelow high (r ∷ rows) → AreRising (r ∷ rows) → Rises low (numbers_of (r ∷ rows)) high
rises_on low r [] high le b h = let a : r.0 < high = b.0 in (le, omega arith)
rises_on low r (s ∷ rows) high le b h = let a : r.0 < s.0 = h.0 in (le, rises_on (r.0 + 1) s rows high (omega arith) b.1 h.1)

pub table_rises : (t : Table) → IsTable t → Rises 0 (numbers_of t.rows) t.next
table_rises t h = elim t.rows as (λ rows. AreBelow t.next rows → AreRising rows → Rises 0 (numbers_of rows) t.next) [
  | [] ↦ λ _ _. omega arith
  | r ∷ rows ↦ λ b a. rises_on 0 r rows t.next (omega arith) b a
] h.0 h.1

pub rises_below : (low : ℕ) (rows : List Numbered) (high : ℕ) → Rises low (numbers_of rows) high → AreBelow high rows
rises_below low [] high h = tt
rises_below low (r ∷ rows) high h = let a : r.0 + 1 ≤ high = rises_ends (r.0 + 1) (numbers_of rows) high h.1 in (omega arith, rises_below (r.0 + 1) rows high h.1)

pub rises_rising : (low : ℕ) (rows : List Numbered) (high : ℕ) → Rises low (numbers_of rows) high → AreRising rows
rises_rising low [] high h = tt
rises_rising low (r ∷ []) high h = tt
rises_rising low (r ∷ s ∷ rows) high h = let a : r.0 + 1 ≤ s.0 = h.1.0 in (omega arith, rises_rising (r.0 + 1) (s ∷ rows) high h.1)
