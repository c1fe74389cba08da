-- What ranges say of terms.
use Rattle.std.proofs.Common.{◌≡◌, ◌≤◌, ◌<◌, ℕ, zero, suc, ◌+◌, ◌*◌, ◌^◌, ℤ, pos, ◌-ℤ◌, ◌*ℤ◌, ◌≤ℤ◌, FitsSigned, Option, None, Some, IfSome, List, [], ◌∷◌, length, get_or, true, false, cond, ◌∙◌, inl, inr, le_trans, rules, refl, sym, ap, subst, arith}
use Rattle.std.specs.Int.{int_max, int_min, w64}
use Rattle.std.specs.Int.RustNames.{int_lt, unsigned_abs}
use Rattle.std.proofs.Math.Nat.{mul-le-mul_left, mul-le-mul_right}
use Rattle.std.proofs.lemmas.Int.{clamps, fits_signed_from_abs, ints, unsigned_abs-mul}
use Rattle.std.specs.List.{All, Contains}
use Rattle.std.proofs.lemmas.Bool.{cases_lt}
use Rattle.std.proofs.lemmas.List.{get_or_default}
use Rattle.sb_rows.specs.Range.{AreIn, Bounds, IsIn, column_reach, reach_of}
use Rattle.sb_rows.specs.Term.{Fits, number_of}
use Rattle.sb_rows.specs.declared.range.Range.{Range}
use Rattle.sb_rows.specs.declared.term.Term.{Term}

-- a term overflows in no row of these ranges, and its number is in a range
abbrev pub Held : List Range → Term → Range → Type 0
Held ranges a range = (row : List ℤ) → AreIn ranges row → Fits row a × IsIn range (number_of row a)

pub held_both : (f : ℤ → ℤ → ℤ) (ranges : List Range) (a b : Term) (one two : Range) (found : Option Range) → IfSome found (Bounds f one two) → Held ranges a one → Held ranges b two → IfSome found (λ range. (row : List ℤ) → AreIn ranges row → (Fits row a × Fits row b × FitsSigned w64 (f (number_of row a) (number_of row b))) × IsIn range (f (number_of row a) (number_of row b)))
held_both f ranges a b one two None bounds first second = search rules
held_both f ranges a b one two (Some range) bounds first second = λ row h.
    let p = first row h in
    let q = second row h in
    let s = bounds (number_of row a) (number_of row b) p.1 q.1 in
    ((p.0, q.0, s.0), s.1)

pub held_negation : (ranges : List Range) (a : Term) (nothing one : Range) (found : Option Range) → IfSome found (Bounds ◌-ℤ◌ nothing one) → IsIn nothing (pos 0) → Held ranges a one → IfSome found (λ range. (row : List ℤ) → AreIn ranges row → (Fits row a × FitsSigned w64 (pos 0 -ℤ number_of row a)) × IsIn range (pos 0 -ℤ number_of row a))
held_negation ranges a nothing one None bounds is first = search rules
held_negation ranges a nothing one (Some range) bounds is first = λ row h.
    let p = first row h in
    let s = bounds (pos 0) (number_of row a) is p.1 in
    ((p.0, s.0), s.1)

-- a column is in its range
pub column_in : (ranges : List Range) (row : List ℤ) (k : ℕ) (range : Range) → AreIn ranges row → k < length ranges → range ≡ get_or ranges k range → IsIn range (get_or row k (pos 0))
column_in [] row k range in_all h is = absurd (omega arith)
column_in (r ∷ ranges) [] k range in_all h is = absurd in_all
column_in (r ∷ ranges) (z ∷ row) zero range in_all h is = subst (λ s. IsIn s z) (sym is) in_all.0
column_in (r ∷ ranges) (z ∷ row) (suc k) range in_all h is = column_in ranges row k range in_all.1 (omega arith) is

-- one that isn't there is zero
pub column_out : (ranges : List Range) (row : List ℤ) (k : ℕ) → AreIn ranges row → length ranges ≤ k → get_or row k (pos 0) ≡ pos 0
column_out [] [] k in_all h = refl
column_out [] (z ∷ row) k in_all h = absurd in_all
column_out (r ∷ ranges) [] k in_all h = absurd in_all
column_out (r ∷ ranges) (z ∷ row) zero in_all h = absurd (omega arith)
column_out (r ∷ ranges) (z ∷ row) (suc k) in_all h = column_out ranges row k in_all.1 (omega arith)

-- an integer that is as far from zero as this, or nearer
between : (z : ℤ) (reach : ℕ) → unsigned_abs z ≤ reach → ((pos 0 -ℤ pos reach) ≤ℤ z) × (z ≤ℤ pos reach)
between z reach h = (omega (arith, ints), omega (arith, ints))

-- products reach as far as the product of what two ranges reach
within_reach : (range : Range) (z : ℤ) → IsIn range z → unsigned_abs z ≤ reach_of range
within_reach range z is = omega (arith, ints, is.0, is.1)

pub product_bounds : (one two : Range) (reach : ℕ) → reach ≡ reach_of one * reach_of two → reach < 2 ^ 63 → (x y : ℤ) → IsIn one x → IsIn two y → FitsSigned w64 (x *ℤ y) × (((pos 0 -ℤ pos reach) ≤ℤ (x *ℤ y)) × ((x *ℤ y) ≤ℤ pos reach))
product_bounds one two reach is low x y p q =
    let wide : unsigned_abs x * unsigned_abs y ≤ reach_of one * unsigned_abs y = mul-le-mul_right (unsigned_abs y) (within_reach one x p) in
    let high : reach_of one * unsigned_abs y ≤ reach_of one * reach_of two = mul-le-mul_left (reach_of one) (within_reach two y q) in
    let far : unsigned_abs (x *ℤ y) ≤ reach = rw (unsigned_abs-mul x y, is) (le_trans wide high) in
    (fits_signed_from_abs w64 (x *ℤ y) (omega (arith, far)), between (x *ℤ y) reach far)

-- the numbers that a loop has seen, and one more
wider : (before after : Range) (number z : ℤ) → after.least ≡ int_min before.least number → after.greatest ≡ int_max before.greatest number → IsIn before z → IsIn after z
wider before after number z least greatest is = (omega (arith, ints, clamps, is.0), omega (arith, ints, clamps, is.1))

holds_number : (before after : Range) (number : ℤ) → after.least ≡ int_min before.least number → after.greatest ≡ int_max before.greatest number → IsIn after number
holds_number before after number least greatest = (omega (arith, ints, clamps), omega (arith, ints, clamps))

pub seen_more : (before after : Range) (numbers : List ℤ) (index : ℕ) (number : ℤ) → after.least ≡ int_min before.least number → after.greatest ≡ int_max before.greatest number → number ≡ get_or numbers index (pos 0) → ((k : ℕ) → k < index → IsIn before (get_or numbers k (pos 0))) → (k : ℕ) → k < index + 1 → IsIn after (get_or numbers k (pos 0))
seen_more before after numbers index number least greatest is seen k h = elim (cases_lt k index) [
  | inl l ↦ wider before after number (get_or numbers k (pos 0)) least greatest (seen k l)
  | inr g ↦
      let e : index ≡ k = omega arith in
      subst (λ i. IsIn after (get_or numbers i (pos 0))) e (subst (IsIn after) is (holds_number before after number least greatest))
]

-- the lesser and the greater of two numbers of a list is one of it
pub contains_least : (numbers : List ℤ) (x y z : ℤ) → z ≡ int_min x y → Contains numbers x → Contains numbers y → Contains numbers z
contains_least numbers x y z is one two = subst (Contains numbers) (sym is) (elim (int_lt y x) as (λ b. Contains numbers (cond b y x)) [ true ↦ two | false ↦ one ])

pub contains_greatest : (numbers : List ℤ) (x y z : ℤ) → z ≡ int_max x y → Contains numbers x → Contains numbers y → Contains numbers z
contains_greatest numbers x y z is one two = subst (Contains numbers) (sym is) (elim (int_lt y x) as (λ b. Contains numbers (cond b x y)) [ true ↦ one | false ↦ two ])

pub contains_at : (numbers : List ℤ) (k : ℕ) (z : ℤ) → k < length numbers → z ≡ get_or numbers k (pos 0) → Contains numbers z
contains_at numbers k z h is = (k, h, get_or_default numbers k z (pos 0) h ∙ sym is)

pub seen_all : (range : Range) (numbers : List ℤ) → ((k : ℕ) → k < length numbers → IsIn range (get_or numbers k (pos 0))) → All (IsIn range) numbers
seen_all range numbers seen = λ k d h. subst (IsIn range) (get_or_default numbers k (pos 0) d h) (seen k h)

pub single_in : (range : Range) (z : ℤ) → range.least ≡ z → range.greatest ≡ z → IsIn range z
single_in range z least greatest = (omega (arith, ints), omega (arith, ints))

-- a column's range reaches as far as the column
pub column_reaches : (ranges : List Range) (k : ℕ) (range : Range) → k < length ranges → range ≡ get_or ranges k range → reach_of range ≤ column_reach ranges k
column_reaches [] k range h is = absurd (omega arith)
column_reaches (r ∷ ranges) zero range h is = omega (arith, ap reach_of is)
column_reaches (r ∷ ranges) (suc k) range h is = column_reaches ranges k range (omega arith) is
