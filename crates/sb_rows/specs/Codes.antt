-- Machine: numbers for texts, in the texts' order.
use Rattle.std.specs.Prelude.{ℕ, ◌+◌, Bool, List, count_by}
use Rattle.std.specs.Borrow.{Bor}
use Rattle.std.specs.Cmp.Lexicographic.{slice_cmp}
use Rattle.std.specs.List.Sorted.{IsSortedBy}
use Rattle.std.specs.Ordering.{nat_cmp, is_le, is_lt}

-- whether a text comes before another, by their bytes
abbrev pub precedes : List ℕ → List ℕ → Bool
precedes a b = is_lt (slice_cmp nat_cmp a b)

-- the code of a text: how many of the texts come before it
abbrev pub code_of : List (List ℕ) → List ℕ → ℕ
code_of texts text = count_by (λ other. precedes other text) texts

-- true if a text comes before another or is the same
abbrev pub reaches : List ℕ → List ℕ → Bool
reaches a b = is_le (slice_cmp nat_cmp a b)

-- the key of a text, whether it is among the texts or not: its code, and how many don't come behind it
abbrev pub key_of : List (List ℕ) → List ℕ → ℕ
key_of texts text = code_of texts text + count_by (λ other. reaches other text) texts

-- no text comes before the one that it follows
abbrev pub InOrder : List (Bor (List ℕ)) → Type 0
InOrder texts = IsSortedBy (λ a b. precedes a.now b.now) texts
