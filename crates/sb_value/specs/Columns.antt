-- Promise: sets of places of columns.
use Rattle.std.specs.Prelude.{ℕ, Bool, true, false, not, ◌==◌, nat_lt, if◌then◌else◌, List, [], ◌∷◌, map, Option, Some, None, slice_set, slice_get}
use Rattle.std.specs.List.{list_any}
use Rattle.sb_value.specs.Values.{same_value}
use Rattle.sb_value.specs.declared.value.Value.{Value}

-- the set of these places, none of them above 7
abbrev pub set_of : List ℕ → List Bool
set_of places = map (λ k. list_any (λ p. p == k) places) (0 ∷ 1 ∷ 2 ∷ 3 ∷ 4 ∷ 5 ∷ 6 ∷ 7 ∷ [])

-- the set with a place that it can hold
abbrev pub with_place : List Bool → ℕ → List Bool
with_place set place = if nat_lt place 8 then slice_set set place true else set

-- the set of the places, of those that a set can hold, that pass the test
abbrev pub set_where : (ℕ → Bool) → List Bool
set_where test = map test (0 ∷ 1 ∷ 2 ∷ 3 ∷ 4 ∷ 5 ∷ 6 ∷ 7 ∷ [])

-- true if two rows have the same at a place
abbrev pub same_place : Option Value → Option Value → Bool
same_place None None = true
same_place None (Some b) = false
same_place (Some a) None = false
same_place (Some a) (Some b) = same_value a b

abbrev pub differ_at : List Value → List Value → ℕ → Bool
differ_at old new k = not (same_place (slice_get old k) (slice_get new k))

-- the columns in which two rows differ
abbrev pub differing : List Value → List Value → List Bool
differing old new = set_where (differ_at old new)
