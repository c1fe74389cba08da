-- Promise: what a file of blocks stands for.
use Rattle.std.specs.Prelude.{◌≡◌, ◌≢◌, ◌⊎◌, ℕ, ◌+◌, ◌^◌, ◌<◌, ◌≤◌, List, [], ◌∷◌, ◌++◌, length}
use Rattle.std.specs.List.{AllByRecursion}
use Rattle.std.specs.Int.{w32, to_be_bytes}

-- four bytes of length, and that many bytes
abbrev pub body : List ℕ → List ℕ
body content = to_be_bytes w32 (length content) ++ content

-- a block: an open gate, which is 1, and the body behind it
abbrev pub block : List ℕ → List ℕ
block content = 1 ∷ body content

abbrev pub blocks : List (List ℕ) → List ℕ
blocks [] = []
blocks (content ∷ contents) = block content ++ blocks contents

abbrev pub IsContent : List ℕ → Type 0
IsContent content = length content ≤ 2 ^ 20

-- the file ends within a body: it has less than four bytes of length, or less content than a length that may be one says
abbrev pub IsCutShort : List ℕ → Type 0
IsCutShort rest =
    (length rest < 4) ⊎ ((size : ℕ) × (content : List ℕ) × (size ≤ 2 ^ 20) × (length content < size) × (rest ≡ to_be_bytes w32 size ++ content))

-- No block begins here: there is nothing, a shut gate and whatever is behind it, or an open gate and a body that is cut short.
abbrev pub IsEnd : List ℕ → Type 0
IsEnd [] = Unit {0}
IsEnd (gate ∷ rest) = (gate ≢ 1) ⊎ IsCutShort rest

-- The file is the blocks of these contents, and no block begins behind them.
pub record Stands (contents : List (List ℕ)) (file : List ℕ) : Type 0 where
  pub each : AllByRecursion IsContent contents
  pub end : List ℕ
  pub whole : file ≡ blocks contents ++ end
  pub over : IsEnd end

-- A crash may leave this behind the last block: nothing, one byte, or a gate that is shut and no more bytes behind it than an append writes.
abbrev pub IsRemnant : List ℕ → Type 0
IsRemnant [] = Unit {0}
IsRemnant (gate ∷ []) = Unit {0}
IsRemnant (gate ∷ next ∷ rest) = (gate ≢ 1) × (length rest ≤ 2 ^ 20 + 4)

-- So many bytes are there, and no crash leaves them.
abbrev pub IsExcess : ℕ → List ℕ → Type 0
IsExcess count end = (length end ≡ count) × (IsRemnant end → ⊥)

-- the file stands for these contents, and no more is behind them than a crash leaves
pub record IsLeft (contents : List (List ℕ)) (file : List ℕ) : Type 0 where
  pub stands : Stands contents file
  pub few : IsRemnant stands.end

-- a crash left the file with what was there, or with that and one content more
abbrev pub IsBeforeOrAfter : List (List ℕ) → List ℕ → List ℕ → Type 0
IsBeforeOrAfter contents content file = IsLeft contents file ⊎ IsLeft (contents ++ content ∷ []) file
