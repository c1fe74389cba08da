-- Machine: the locks of four cells of a host.
use Rattle.std.specs.Prelude.{ℕ, ◌≡◌, ◌+◌, ◌<◌, Option, IsSome}

-- four cells in a row
abbrev pub AreInRow : ℕ → ℕ → ℕ → ℕ → Type 0
AreInRow a b c d = (a + 1 ≡ b) × (b + 1 ≡ c) × (c + 1 ≡ d)

-- those of them that are cells of a host with so many have their locks
abbrev pub HaveLocks : {A B C D : Type 0} → ℕ → ℕ → ℕ → ℕ → ℕ → Option A → Option B → Option C → Option D → Type 0
HaveLocks cells a b c d first second third fourth =
    (a < cells → IsSome first) × (b < cells → IsSome second) × (c < cells → IsSome third) × (d < cells → IsSome fourth)
