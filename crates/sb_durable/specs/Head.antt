-- Promise: what a segment begins with, and what a file of one stands for.
use Rattle.std.specs.Prelude.{◌≡◌, ◌≢◌, ◌⊎◌, ℕ, ◌+◌, ◌^◌, ◌<◌, ◌≤◌, List, [], ◌∷◌, ◌++◌, length}
use Rattle.std.specs.Int.{w32, w64, to_be_bytes}
use Rattle.sqlite_disk.specs.Digest.{digest}
use Rattle.sb_durable.specs.SegmentBlocks.{end_digest, GoOn, IsOpen}

-- the number of the segment, the digest at the end of the one before, and settings
pub record Head : Type 0 where
  pub number : ℕ
  pub before : ℕ
  pub settings : List ℕ

abbrev pub IsHead : Head → Type 0
IsHead head = (head.number < 2 ^ 64) × (head.before < 2 ^ 64) × (length head.settings ≤ 4096)

-- an F, by which the gate of a file is opened
abbrev pub file_gate : ℕ
file_gate = 70

-- ILGJRN2, which stands behind that
abbrev pub mark : List ℕ
mark = 73 ∷ 76 ∷ 71 ∷ 74 ∷ 82 ∷ 78 ∷ 50 ∷ []

-- what a head says
abbrev pub head_text : Head → List ℕ
head_text head = mark ++ (to_be_bytes w64 head.number ++ (to_be_bytes w64 head.before ++ (to_be_bytes w32 (length head.settings) ++ head.settings)))

abbrev pub head_digest : Head → ℕ
head_digest head = digest 0 (head_text head)

-- what stands behind the gate of a file: that, and its digest
abbrev pub head_bytes : Head → List ℕ
head_bytes head = head_text head ++ to_be_bytes w64 (head_digest head)

-- how many bytes stand before the blocks
abbrev pub head_size : Head → ℕ
head_size head = 36 + length head.settings

-- the digest at the end of a segment
abbrev pub last_digest : Head → List (List ℕ) → ℕ
last_digest head contents = end_digest (head_digest head) contents

-- an open gate, and these bytes behind it
pub record IsOpened (bytes file : List ℕ) : Type 0 where
  pub gate : ℕ
  pub opened : IsOpen gate
  pub whole : file ≡ gate ∷ bytes

-- The file is this head behind an open gate and the blocks of these contents, and no block begins behind them.
pub record Stands (head : Head) (contents : List (List ℕ)) (file : List ℕ) : Type 0 where
  pub fits : IsHead head
  pub rest : List ℕ
  pub begins : IsOpened (head_bytes head ++ rest) file
  pub behind : GoOn (head_digest head) contents rest

-- a shut gate is there
abbrev pub IsShutEnd : List ℕ → Type 0
IsShutEnd [] = ⊥
IsShutEnd (gate ∷ rest) = gate ≡ 0

-- so does a file that a crash leaves, with a shut gate behind the last block
pub record IsLeft (head : Head) (contents : List (List ℕ)) (file : List ℕ) : Type 0 where
  pub stands : Stands head contents file
  pub shut : IsShutEnd stands.behind.end

-- the file stands for what was there, or for that and one content more
abbrev pub IsBeforeOrAfter : Head → List (List ℕ) → List ℕ → List ℕ → Type 0
IsBeforeOrAfter head contents content file = IsLeft head contents file ⊎ IsLeft head (contents ++ content ∷ []) file

-- the mark behind a gate that is shut
pub record IsShut (file : List ℕ) : Type 0 where
  pub rest : List ℕ
  pub whole : file ≡ 0 ∷ (mark ++ rest)

-- The file has not begun: it has eight bytes at most, or the mark behind a gate that is shut.
abbrev pub IsUnbegun : List ℕ → Type 0
IsUnbegun file = (length file ≤ 8) ⊎ IsShut file

-- Behind the mark the file ends within a head: it has less than its numbers, or less than the length of its settings says.
abbrev pub IsHeadCut : List ℕ → Type 0
IsHeadCut rest =
    (length rest < 20) ⊎ ((number before size : ℕ) × (cut : List ℕ) × (size ≤ 4096) × (length cut < size + 8) × (rest ≡ to_be_bytes w64 number ++ (to_be_bytes w64 before ++ (to_be_bytes w32 size ++ cut))))

-- The file has begun, and ends within its head. No crash leaves that: it is part of a copy, or a length in it has changed.
pub record IsCutHead (file : List ℕ) : Type 0 where
  pub rest : List ℕ
  pub cut : IsHeadCut rest
  pub begins : IsOpened (mark ++ rest) file

-- the mark behind a gate that is shut, and nothing behind it
abbrev pub IsReady : List ℕ → Type 0
IsReady file = file ≡ 0 ∷ mark

-- no segment begins here, and none was begun
abbrev pub IsForeign : List ℕ → Type 0
IsForeign file = (8 < length file) × ((gate : ℕ) (rest : List ℕ) → file ≢ gate ∷ (mark ++ rest))
