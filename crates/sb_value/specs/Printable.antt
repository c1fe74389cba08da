-- Promise: the bytes that a line may have.
use Rattle.std.specs.Prelude.{ℕ, ◌≤◌, Bool, ◌&&◌, List, length, nat_le}
use Rattle.std.specs.List.{AllPass}

-- printable ASCII
abbrev pub is_printable : ℕ → Bool
is_printable b = nat_le 32 b && nat_le b 126

-- the bytes of a text value: at most 255, all printable
abbrev pub AreTextBytes : List ℕ → Type 0
AreTextBytes bytes = (length bytes ≤ 255) × AllPass is_printable bytes
