-- Promise: pairs of rules and their transitive closure, as rows of flags.
use Rattle.std.specs.Prelude.{◌≡◌, ℕ, zero, suc, Bool, false, ◌&&◌, ◌||◌, ◌==◌, if◌then◌else◌, List, [], ◌∷◌, ◌++◌, slice_index_or}
use Rattle.std.specs.List.{list_any}
use Rattle.sb_value.specs.Flags.{flag_at}
use Rattle.sb_value.specs.Order.{precedes}

-- the second rule's row has a flag for the first rule
abbrev pub relates : List (List Bool) → ℕ → ℕ → Bool
relates rows a b = flag_at (slice_index_or rows b []) a

abbrev pub has_pair : List (ℕ × ℕ) → ℕ → ℕ → Bool
has_pair pairs a b = list_any (λ p. (p.0 == a) && (p.1 == b)) pairs

-- the rows are these pairs, whatever their order
abbrev pub HasPairs : List (List Bool) → List (ℕ × ℕ) → Type 0
HasPairs rows pairs = (a b : ℕ) → relates rows a b ≡ has_pair pairs a b

-- the rows are the closure of the pairs
abbrev pub IsClosure : List (List Bool) → List (ℕ × ℕ) → Type 0
IsClosure rows pairs = (a b : ℕ) → relates rows a b ≡ precedes pairs a b

-- the rules of these flags are those that precede the rule
abbrev pub ArePredecessors : List Bool → List (List Bool) → ℕ → Type 0
ArePredecessors flags rows rule = (pairs : List (ℕ × ℕ)) → HasPairs rows pairs → (a : ℕ) → flag_at flags a ≡ precedes pairs a rule

-- the new rows have these pairs more
abbrev pub GainsPairs : List (List Bool) → List (List Bool) → List (ℕ × ℕ) → Type 0
GainsPairs old new more = (pairs : List (ℕ × ℕ)) → HasPairs old pairs → HasPairs new (pairs ++ more)

-- the new rows are the closure with these pairs more
abbrev pub ClosesMore : List (List Bool) → List (List Bool) → List (ℕ × ℕ) → Type 0
ClosesMore old new more = (pairs : List (ℕ × ℕ)) → IsClosure old pairs → IsClosure new (more ++ pairs)

-- the one rows are some pairs, the other ones are the closure of these
abbrev pub AreClosed : List (List Bool) → List (List Bool) → Type 0
AreClosed rows closure = (pairs : List (ℕ × ℕ)) × HasPairs rows pairs × IsClosure closure pairs

-- ---- a row of pairs at once

-- the pairs that put the rules below n that a row has before the second rule
unfoldable pub row_pairs : (ℕ → Bool) → ℕ → ℕ → List (ℕ × ℕ)
row_pairs row second zero = []
row_pairs row second (suc n) = if row n then (n, second) ∷ row_pairs row second n else row_pairs row second n

-- the row has a rule below n that is a or that a is before
unfoldable pub is_led : (ℕ → Bool) → (ℕ → Bool) → ℕ → ℕ → Bool
is_led row before a zero = false
is_led row before a (suc n) = is_led row before a n || (row n && ((a == n) || before n))

-- flags with a rule and those before it, if the row has the rule
abbrev pub with_led : List Bool → List Bool → ℕ → List Bool → ℕ → Bool
with_led through row rule before a = flag_at through a || (flag_at row rule && ((a == rule) || flag_at before a))

-- rows in which these rules precede the second rule and what it precedes
abbrev pub relates_through : List (List Bool) → List Bool → ℕ → ℕ → ℕ → Bool
relates_through rows through second a b = relates rows a b || (flag_at through a && ((second == b) || relates rows second b))

-- the same of one row, by its number
abbrev pub row_through : List Bool → ℕ → List Bool → ℕ → ℕ → Bool
row_through row number through second a = flag_at row a || (flag_at through a && ((second == number) || flag_at row second))
