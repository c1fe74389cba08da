-- Promise: names, as their bytes.
use Rattle.std.specs.Prelude.{◌≡◌, ℕ, ◌-◌, ◌<◌, ◌≤◌, Bool, List, ◌++◌, length, take, replicate}
use Rattle.std.specs.Cmp.Lexicographic.{slice_cmp}
use Rattle.std.specs.Ordering.{is_eq, nat_cmp}

abbrev pub same_name : List ℕ → List ℕ → Bool
same_name a b = is_eq (slice_cmp nat_cmp a b)

-- a name with the zeros that stand behind it in memory
abbrev pub padded : List ℕ → List ℕ
padded name = name ++ replicate (32 - length name) 0

-- the bytes in memory are a name of this length, and zeros
pub record IsPadded (bytes : List ℕ) (len : ℕ) : Type 0 where
  pub not_empty : 0 < len
  pub short : len ≤ 32
  pub whole : length bytes ≡ 32
  pub zeros : bytes ≡ padded (take len bytes)
