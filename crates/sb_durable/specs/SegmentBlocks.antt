-- Promise: what bytes of blocks stand for, and the digest that binds them.
use Rattle.std.specs.Prelude.{◌≡◌, ◌≢◌, ◌⊎◌, ℕ, ◌+◌, ◌^◌, ◌<◌, ◌≤◌, List, [], ◌∷◌, ◌++◌, length}
use Rattle.std.specs.List.{AllByRecursion}
use Rattle.std.specs.Int.{w32, w64, to_be_bytes}
use Rattle.sqlite_disk.specs.Digest.{digest}

abbrev pub IsContent : List ℕ → Type 0
IsContent content = length content ≤ 2 ^ 20

-- A gate is a byte. It is shut if that is 0, and else it is open.
abbrev pub IsOpen : ℕ → Type 0
IsOpen gate = gate ≢ 0

-- an open gate as it is written
abbrev pub open_gate : ℕ
open_gate = 255

-- four bytes of length, the digest of the content, and the content
abbrev pub body : ℕ → List ℕ → List ℕ
body own content = to_be_bytes w32 (length content) ++ (to_be_bytes w64 own ++ content)

-- A block: a gate, and the body behind it. The digest of its content is taken under the one before.
abbrev pub block : ℕ → ℕ → List ℕ → List ℕ
block gate before content = gate ∷ body (digest before content) content

-- The bytes are blocks of these contents, one behind the other, each under the digest of the one before, and each gate is open.
abbrev pub AreBlocks : ℕ → List (List ℕ) → List ℕ → Type 0
AreBlocks before [] bytes = bytes ≡ []
AreBlocks before (content ∷ contents) bytes = (gate : ℕ) × (more : List ℕ) × IsOpen gate × (bytes ≡ block gate before content ++ more) × AreBlocks (digest before content) contents more

-- how many bytes they take
abbrev pub size_of : List (List ℕ) → ℕ
size_of [] = 0
size_of (content ∷ contents) = 13 + length content + size_of contents

-- the digest at their end
abbrev pub end_digest : ℕ → List (List ℕ) → ℕ
end_digest before [] = before
end_digest before (content ∷ contents) = end_digest (digest before content) contents

-- The bytes end within a body: they have less than a length and a digest, or less content than a length that may be one says.
abbrev pub IsCutShort : List ℕ → Type 0
IsCutShort rest =
    (length rest < 12) ⊎ ((size own : ℕ) × (content : List ℕ) × (size ≤ 2 ^ 20) × (length content < size) × (rest ≡ to_be_bytes w32 size ++ (to_be_bytes w64 own ++ content)))

-- No block begins here: there is nothing, a shut gate and no more than an append writes behind it, or a body that is cut short.
abbrev pub IsEnd : List ℕ → Type 0
IsEnd [] = Unit {0}
IsEnd (gate ∷ rest) = ((gate ≡ 0) × (length rest ≤ 2 ^ 20 + 13)) ⊎ IsCutShort rest

-- Behind this digest the bytes are blocks of these contents, and no block begins behind them.
pub record GoOn (before : ℕ) (contents : List (List ℕ)) (bytes : List ℕ) : Type 0 where
  pub each : AllByRecursion IsContent contents
  pub front : List ℕ
  pub are : AreBlocks before contents front
  pub end : List ℕ
  pub whole : bytes ≡ front ++ end
  pub over : IsEnd end
