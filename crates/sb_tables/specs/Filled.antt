-- Machine: names with numbers, and a slot for each number.
use Rattle.std.specs.Prelude.{◌≡◌, ℕ, ◌==◌, if◌then◌else◌, List, [], slice_get, unwrap_or, Option, Some, None, is_some}
use Rattle.std.specs.List.{list_any}
use Rattle.sb_tables.specs.Stored.{Stored}
use Rattle.sb_tables.specs.Held.{Held, no_rows}

-- what the slot of a number holds
abbrev pub slot_at : List (Option Stored) → ℕ → Option Stored
slot_at slots id = unwrap_or (slice_get slots id) None

-- with a table in a slot
abbrev pub with_slot : List (Option Stored) → ℕ → Stored → ℕ → Option Stored
with_slot slots id stored k = if k == id then Some stored else slot_at slots k

-- the table of a name and a number
abbrev pub held_in : List (Option Stored) → List ℕ × ℕ → Held
held_in slots e = record { id = e.1; name = e.0; stored = unwrap_or (slot_at slots e.1) (no_rows []) }

-- the slots that hold a table are those of the numbers that a name has
abbrev pub AreFilled : List (List ℕ × ℕ) → List (Option Stored) → Type 0
AreFilled named slots = (id : ℕ) → is_some (slot_at slots id) ≡ list_any (λ e. e.1 == id) named
