-- Machine: rising numbers.
use Rattle.std.specs.Prelude.{◌≡◌, ℕ, ◌+◌, ◌<◌, ◌≤◌, List, [], ◌∷◌, length, take, drop, slice_index}

-- the numbers rise, from low on, and stay below high
abbrev pub Rises : ℕ → List ℕ → ℕ → Type 0
Rises low [] high = low ≤ high
Rises low (n ∷ ns) high = (low ≤ n) × Rises (n + 1) ns high

abbrev pub AllBelow : ℕ → List ℕ → Type 0
AllBelow n [] = Unit {0}
AllBelow n (m ∷ ms) = (m < n) × AllBelow n ms

abbrev pub AllFrom : ℕ → List ℕ → Type 0
AllFrom n [] = Unit {0}
AllFrom n (m ∷ ms) = (n ≤ m) × AllFrom n ms

-- the numbers in front of the place are below n, and those from the place on are not
pub record IsFirstFrom (n : ℕ) (ns : List ℕ) (place : ℕ) : Type 0 where
  pub within : place ≤ length ns
  pub below : AllBelow n (take place ns)
  pub above : AllFrom n (drop place ns)

-- n stands at the place
pub record IsPlace (n : ℕ) (ns : List ℕ) (place : ℕ) : Type 0 where
  pub within : place < length ns
  pub is : slice_index ns place ≡ n
