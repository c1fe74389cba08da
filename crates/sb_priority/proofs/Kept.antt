-- Rows that are kept, as pairs.
use Rattle.std.proofs.Common.{◌≡◌, ◌∙◌, ℕ, ◌<◌, ◌≤◌, Bool, true, false, ◌&&◌, ◌==◌, nat_lt, List, [], ◌∷◌, ◌++◌, map, length, refl, sym, ap, arith, inl, inr}
use Rattle.std.proofs.Math.ListN.{get_or-map, get_or-eq_default}
use Rattle.std.proofs.lemmas.List.{length-map}
use Rattle.std.proofs.lemmas.Bool.{false≢true, or_cases, or_left, or_right, and_parts, ltb-true, ltb-false}
use Rattle.std.specs.List.{list_any}
use Rattle.sb_value.specs.Flags.{flag_at}
use Rattle.sb_value.specs.Order.{Precedes, pair, onward, precedes}
use Rattle.sb_value.specs.Laws.{PrecedesIsClosure}
use Rattle.sb_priority.specs.Closed.{relates, has_pair, HasPairs, AreClosed}
use Rattle.sb_priority.specs.Rows.{direct_of, before_of, row_at, no_row, IsRowOf}
use Rattle.sb_priority.specs.Ranks.{pairs_of}
use Rattle.sb_priority.specs.declared.rows.PrecedenceRow.{PrecedenceRow}
use Rattle.sb_priority.proofs.Tests.{not_true}
use Rattle.sb_priority.proofs.Paths.{has_pair-append, trails}

pub direct_at : (rows : List PrecedenceRow) (a b : ℕ) → flag_at (row_at rows b).direct a ≡ relates (direct_of rows) a b
direct_at rows a b = sym (ap (λ (row : List Bool). flag_at row a) (get_or-map (λ (row : PrecedenceRow). row.direct) rows b no_row))

pub before_at : (rows : List PrecedenceRow) (a b : ℕ) → flag_at (row_at rows b).before a ≡ relates (before_of rows) a b
before_at rows a b = sym (ap (λ (row : List Bool). flag_at row a) (get_or-map (λ (row : PrecedenceRow). row.before) rows b no_row))

-- rows that relate the same are closed as well
pub closed_same : (rows closure direct before : List (List Bool)) → AreClosed rows closure → ((a b : ℕ) → relates direct a b ≡ relates rows a b) → ((a b : ℕ) → relates before a b ≡ relates closure a b) → AreClosed direct before
closed_same rows closure direct before closed same too = (closed.0, λ a b. same a b ∙ closed.1 a b, λ a b. too a b ∙ closed.2 a b)

-- ---- rows of other pairs

ends : (pairs : List (ℕ × ℕ)) {a b : ℕ} → Precedes pairs a b → (x : ℕ) × (has_pair pairs x b ≡ true)
ends pairs (pair {a = a} p) = (a, p)
ends pairs (onward f g) = ends pairs g

-- nothing precedes a rule that no pair names second
unled : PrecedesIsClosure → (pairs : List (ℕ × ℕ)) (b : ℕ) → ((x : ℕ) → has_pair pairs x b ≡ false) → (a : ℕ) → precedes pairs a b ≡ false
unled law pairs b none a = not_true (precedes pairs a b) (λ p. let w = ends pairs ((law pairs a b).1 p) in sym (none w.0) ∙ w.1)

past_row : (rows : List (List Bool)) (a b : ℕ) → length rows ≤ b → relates rows a b ≡ false
past_row rows a b h = ap (λ (row : List Bool). flag_at row a) (get_or-eq_default rows [] h)

unpaired : (pairs : List (List Bool)) (n b : ℕ) → ((a b : ℕ) → relates pairs a b ≡ true → b < n) → n ≤ b → (a : ℕ) → relates pairs a b ≡ false
unpaired pairs n b within past a = not_true (relates pairs a b) (λ p. absurd (let low : b < n = within a b p in omega (arith, low, past)))

-- with a row of the pairs for each rule that is second in one, the rows are the pairs
pub stored : (pairs : List (List Bool)) (rows : List PrecedenceRow) (n : ℕ) → length rows ≡ n → ((a b : ℕ) → relates pairs a b ≡ true → b < n) → ((b : ℕ) → b < n → IsRowOf pairs b (row_at rows b)) →
    (a b : ℕ) → relates (direct_of rows) a b ≡ relates pairs a b
stored pairs rows n long within filled a b = by (nat_lt b n) refl
  where
    by : (below : Bool) → nat_lt b n ≡ below → relates (direct_of rows) a b ≡ relates pairs a b
    by true e = sym (direct_at rows a b) ∙ (filled b (ltb-true b n e)).direct a
    by false e =
        let past : n ≤ b = ltb-false b n e in
        past_row (direct_of rows) a b (omega (arith, past, long, length-map rows (λ (row : PrecedenceRow). row.direct))) ∙ sym (unpaired pairs n b within past a)

pub stored_closed : PrecedesIsClosure → (pairs : List (List Bool)) (rows : List PrecedenceRow) (n : ℕ) (list : List (ℕ × ℕ)) → HasPairs pairs list → length rows ≡ n → ((a b : ℕ) → relates pairs a b ≡ true → b < n) →
    ((b : ℕ) → b < n → IsRowOf pairs b (row_at rows b)) → AreClosed (direct_of rows) (before_of rows)
stored_closed law pairs rows n list has long within filled = (list, λ a b. stored pairs rows n long within filled a b ∙ has a b, λ a b. by a b (nat_lt b n) refl)
  where
    by : (a b : ℕ) (below : Bool) → nat_lt b n ≡ below → relates (before_of rows) a b ≡ precedes list a b
    by a b true e = sym (before_at rows a b) ∙ (filled b (ltb-true b n e)).before list has a
    by a b false e =
        let past : n ≤ b = ltb-false b n e in
        past_row (before_of rows) a b (omega (arith, past, long, length-map rows (λ (row : PrecedenceRow). row.before)))
        ∙ sym (unled law list b (λ x. sym (has x b) ∙ unpaired pairs n b within past x) a)

-- a rule that another one precedes by the rows has its row
pub within_rows : (rows : List (List Bool)) (a b : ℕ) → relates rows a b ≡ true → b < length rows
within_rows rows a b h = by (nat_lt b (length rows)) refl
  where
    by : (below : Bool) → nat_lt b (length rows) ≡ below → b < length rows
    by true e = ltb-true b (length rows) e
    by false e = absurd (false≢true (sym (past_row rows a b (ltb-false b (length rows) e)) ∙ h))

ahead : (rule : ℕ) (xs : List ℕ) (a b : ℕ) → has_pair (map (λ x. (rule, x)) xs) a b ≡ true → list_any (λ o. o == b) xs ≡ true
ahead rule [] a b h = absurd (false≢true h)
ahead rule (x ∷ xs) a b h =
    elim (or_cases ((rule == a) && (x == b)) (has_pair (map (λ x. (rule, x)) xs) a b) h) [
      | inl here ↦ or_left (x == b) (list_any (λ o. o == b) xs) (and_parts (rule == a) (x == b) here).1
      | inr there ↦ or_right (x == b) (list_any (λ o. o == b) xs) (ahead rule xs a b there)
    ]

-- with a rule's pairs more each rule that another one precedes has its row
pub added_within : (loaded added : List (List Bool)) (list : List (ℕ × ℕ)) (rule : ℕ) (xs ys : List ℕ) (n : ℕ) → ((a b : ℕ) → relates loaded a b ≡ true → b < n) → HasPairs loaded list → HasPairs added (list ++ pairs_of rule xs ys) →
    rule < n → ((r : ℕ) → list_any (λ o. o == r) xs ≡ true → r < n) → (a b : ℕ) → relates added a b ≡ true → b < n
added_within loaded added list rule xs ys n within has more own others a b h =
    let first : List (ℕ × ℕ) = map (λ x. (rule, x)) xs in
    let second : List (ℕ × ℕ) = map (λ y. (y, rule)) ys in
    elim (or_cases (has_pair list a b) (has_pair (pairs_of rule xs ys) a b) (sym (has_pair-append list (pairs_of rule xs ys) a b) ∙ sym (more a b) ∙ h)) [
      | inl old ↦ within a b (has a b ∙ old)
      | inr new ↦ elim (or_cases (has_pair first a b) (has_pair second a b) (sym (has_pair-append first second a b) ∙ new)) [
        | inl e ↦ others b (ahead rule xs a b e)
        | inr e ↦ let same : b ≡ rule = trails rule ys a b e in omega (arith, same, own)
      ]
    ]
