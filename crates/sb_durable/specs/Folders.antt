-- Promise: the numbers of the files in a folder.
use Rattle.std.specs.Prelude.{◌≡◌, ◌≢◌, ℕ, ◌+◌, ◌<◌, List, length, slice_index}

-- each number follows the one before it
abbrev pub FollowOn : List ℕ → Type 0
FollowOn numbers = (k : ℕ) → k + 1 < length numbers → slice_index numbers (k + 1) ≡ slice_index numbers k + 1

-- the number that stands behind this one doesn't follow it
abbrev pub IsGap : List ℕ → ℕ → ℕ → Type 0
IsGap numbers before number =
    (k : ℕ) × (k + 1 < length numbers) × (slice_index numbers k ≡ before) × (slice_index numbers (k + 1) ≡ number) × (number ≢ before + 1)
