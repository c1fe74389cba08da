-- Promise: sets of small numbers as lists of flags, and the bits of a word as such a list, the lowest first.
use Rattle.std.specs.Prelude.{◌≡◌, ◌≤◌, ◌<◌, true, ℕ, zero, suc, ◌+◌, ◌*◌, Bool, false, not, ◌&&◌, ◌||◌, ◌==◌, if◌then◌else◌, List, [], ◌∷◌, slice_get, unwrap_or, replicate}
use Rattle.std.specs.List.{list_any}
use Rattle.std.specs.Int.{bit_at}

-- true if the number is in the set
abbrev pub flag_at : List Bool → ℕ → Bool
flag_at flags k = unwrap_or (slice_get flags k) false

abbrev pub no_flags : ℕ → List Bool
no_flags n = replicate n false

abbrev pub has_none : List Bool → Bool
has_none flags = not (list_any (λ b. b) flags)

-- the numbers that one of the two sets has
abbrev pub union : List Bool → List Bool → List Bool
union [] ys = ys
union (x ∷ xs) [] = x ∷ xs
union (x ∷ xs) (y ∷ ys) = (x || y) ∷ union xs ys

-- the numbers that both sets have
abbrev pub intersection : List Bool → List Bool → List Bool
intersection [] ys = []
intersection (x ∷ xs) [] = []
intersection (x ∷ xs) (y ∷ ys) = (x && y) ∷ intersection xs ys

-- true if the two sets have a number in common
abbrev pub share_place : List Bool → List Bool → Bool
share_place [] ys = false
share_place (x ∷ xs) [] = false
share_place (x ∷ xs) (y ∷ ys) = (x && y) || share_place xs ys

-- no number of the set is n or more
abbrev pub HasNoneFrom : ℕ → List Bool → Type 0
HasNoneFrom n flags = (k : ℕ) → n ≤ k → flag_at flags k ≡ false

-- the least number of the set that isn't below n
pub record IsFirstFrom (n : ℕ) (flags : List Bool) (k : ℕ) : Type 0 where
  pub from : n ≤ k
  pub is_in : flag_at flags k ≡ true
  pub least : (j : ℕ) → n ≤ j → j < k → flag_at flags j ≡ false

-- the n bits of a word from bit i on
unfoldable pub flags_from : ℕ → ℕ → ℕ → List Bool
flags_from zero i word = []
flags_from (suc n) i word = (bit_at word i == 1) ∷ flags_from n (suc i) word

unfoldable pub flags_of : ℕ → ℕ → List Bool
flags_of n word = flags_from n 0 word

-- the word with these bits
unfoldable pub word_of : List Bool → ℕ
word_of [] = 0
word_of (b ∷ bs) = (if b then 1 else 0) + 2 * word_of bs

-- the least bit of a word that is set and isn't below n
abbrev pub IsBitFrom : ℕ → ℕ → ℕ → Type 0
IsBitFrom n word k = (k < 64) × IsFirstFrom n (flags_of 64 word) k
