-- Promise: a log as a list of changes, each with its time, oldest first.
use Rattle.std.specs.Prelude.{ℕ, ◌+◌, ◌≤◌, Bool, not, ◌&&◌, ◌==◌, nat_lt, nat_le, List, [], ◌∷◌, reverse, Option}
use mathlib.Core.HLevel.{×_prop}
use native.Mathlib.Bridge.{le_prop}
use Rattle.std.specs.List.{filter}
use Rattle.std.specs.Map.{lookup}
use Rattle.sb_value.specs.declared.id.Who.{Who}
use Rattle.sb_value.specs.declared.change.Change.{Change}
use Rattle.sb_rawlog.specs.Changes.{is_by}

abbrev pub Record : Type 0
Record = ℕ × Change

-- the times rise from low on, and stay below the clock
abbrev pub Rising : ℕ → List Record → ℕ → Type 0
Rising low [] clock = low ≤ clock
Rising low (r ∷ rs) clock = (low ≤ r.0) × Rising (r.0 + 1) rs clock

pub Rising-prop : (low : ℕ) (rs : List Record) (clock : ℕ) → IsProp (Rising low rs clock)
Rising-prop low [] clock = le_prop
Rising-prop low (r ∷ rs) clock = ×_prop le_prop (Rising-prop (r.0 + 1) rs clock)

-- the records that pass the test and are no older than since, oldest first
unfoldable pub selected : (Change → Bool) → ℕ → List Record → List Record
selected p since rs = filter (λ r. nat_le since r.0 && p r.1) rs

-- the same, newest first
unfoldable pub walk : (Change → Bool) → ℕ → List Record → List Record
walk p since rs = reverse (selected p since rs)

-- the records before the time
unfoldable pub before : ℕ → List Record → List Record
before t rs = filter (λ r. nat_lt r.0 t) rs

-- the records but for that of the time
unfoldable pub without : ℕ → List Record → List Record
without t rs = filter (λ r. not (r.0 == t)) rs

-- the records of the other sessions
unfoldable pub others : Who → List Record → List Record
others who rs = filter (λ r. not (is_by who r.1)) rs

-- the change of the time
unfoldable pub change_at : ℕ → List Record → Option Change
change_at t rs = lookup (λ u. u == t) rs
