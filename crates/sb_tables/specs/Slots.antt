-- Machine: what the slots of a table hold.
use Rattle.std.specs.Prelude.{◌≡◌, ℕ, ◌+◌, ◌≤◌, if◌then◌else◌, List, [], ◌∷◌, length, map}
use Rattle.sb_value.specs.declared.value.Value.{Value}
use Rattle.sb_tables.specs.declared.slot.Slot.{Slot}
use Rattle.sb_tables.specs.Rising.{Rises}

abbrev pub numbers : List Slot → List ℕ
numbers slots = map (λ s. s.number) slots

-- the rows that aren't deleted, with their numbers
abbrev pub live_rows : List Slot → List (ℕ × List Value)
live_rows [] = []
live_rows (s ∷ ss) = if s.live then (s.number, s.row) ∷ live_rows ss else live_rows ss

-- the numbers rise and are below the next, the deleted rows are counted, and there are places for what is reserved
pub record AreSound (slots : List Slot) (deleted next room capacity : ℕ) : Type 0 where
  pub rises : Rises 0 (numbers slots) next
  pub counted : length (live_rows slots) + deleted ≡ length slots
  pub reserved : length slots + room ≤ capacity
