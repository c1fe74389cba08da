-- Machine: the least and the greatest integer that a column may have.
use Rattle.std.specs.Prelude.{ℕ, zero, suc, ◌+◌, ◌*◌, ◌^◌, ◌<◌, ◌≤◌, max, Option, IsSome, IfSome, List, [], ◌∷◌, ℤ, ◌≤ℤ◌, unsigned_abs, FitsSigned}
use Rattle.std.specs.Int.{w64}
use Rattle.sb_rows.specs.declared.condition.Test as condition
use Rattle.sb_rows.specs.declared.condition.Test.{Test, Always, Compare, Both', Either'}
use Rattle.sb_rows.specs.declared.range.Range.{Range}
use Rattle.sb_rows.specs.declared.term.Term.{Term, Constant, Column, Negation', Sum', Difference', Product'}

-- an integer is in a range
abbrev pub IsIn : Range → ℤ → Type 0
IsIn range z = (range.least ≤ℤ z) × (z ≤ℤ range.greatest)

-- each column of a row is in its range
abbrev pub AreIn : List Range → List ℤ → Type 0
AreIn [] [] = Unit {0}
AreIn [] (z ∷ row) = ⊥
AreIn (range ∷ ranges) [] = ⊥
AreIn (range ∷ ranges) (z ∷ row) = IsIn range z × AreIn ranges row

-- the greatest distance of a range from zero
abbrev pub reach_of : Range → ℕ
reach_of range = max (unsigned_abs range.least) (unsigned_abs range.greatest)

-- how far a column reaches; one that isn't there is zero
abbrev pub column_reach : List Range → ℕ → ℕ
column_reach [] k = 0
column_reach (range ∷ ranges) zero = reach_of range
column_reach (range ∷ ranges) (suc k) = column_reach ranges k

-- how far from zero a term and its parts reach at most, where columns are in their ranges
abbrev pub term_reach : List Range → Term → ℕ
term_reach ranges (Constant z) = unsigned_abs z
term_reach ranges (Column k) = column_reach ranges k
term_reach ranges (Negation' p a) = term_reach ranges a
term_reach ranges (Sum' p a q b) = term_reach ranges a + term_reach ranges b
term_reach ranges (Difference' p a q b) = term_reach ranges a + term_reach ranges b
term_reach ranges (Product' p a q b) =
    max (max (term_reach ranges a) (term_reach ranges b)) (term_reach ranges a * term_reach ranges b)

-- a range is given where this reach fits, and it reaches no further
abbrev pub IsGivenUpTo : ℕ → Option Range → Type 0
IsGivenUpTo reach found = (reach < 2 ^ 63 → IsSome found) × IfSome found (λ range. reach_of range ≤ reach)

-- what f gives of integers of two ranges is in a third one, and 64 bits hold it
abbrev pub Bounds : (ℤ → ℤ → ℤ) → Range → Range → Range → Type 0
Bounds f one two range = (x y : ℤ) → IsIn one x → IsIn two y → FitsSigned w64 (f x y) × IsIn range (f x y)

-- how far the terms of a condition and their parts reach at most
abbrev pub condition_reach : List Range → Test → ℕ
condition_reach ranges Always = 0
condition_reach ranges (Compare a op b) = max (term_reach ranges a) (term_reach ranges b)
condition_reach ranges (Both' p a q b) = max (condition_reach ranges a) (condition_reach ranges b)
condition_reach ranges (Either' p a q b) = max (condition_reach ranges a) (condition_reach ranges b)
condition_reach ranges (condition.Negation' p a) = condition_reach ranges a
