-- Machine: what a log holds of one session.
use Rattle.std.specs.Prelude.{◌≡◌, ◌≢◌, ℕ, ◌≤◌, ◌&&◌, nat_le, nat_lt, List, [], ◌∷◌, ◌++◌, map, length, drop, Option, Some, None}
use Rattle.std.specs.List.{filter}
use Rattle.sb_value.specs.declared.id.Who.{Who}
use Rattle.sb_value.specs.declared.change.Change.{Change}
use Rattle.sb_rawlog.specs.Changes.{author, is_by}
use Rattle.sb_rawlog.specs.Records.{Record, selected, before}

-- a session's records, oldest first
unfoldable pub records_by : Who → List Record → List Record
records_by who rs = filter (λ r. is_by who r.1) rs

abbrev pub changes : List Record → List Change
changes rs = map (λ r. r.1) rs

-- a session's changes: the list that its transaction stands for
abbrev pub changes_by : Who → List Record → List Change
changes_by who rs = changes (records_by who rs)

-- those that are no older than a time
abbrev pub changes_since : Who → ℕ → List Record → List Change
changes_since who since rs = changes (selected (is_by who) since rs)

-- those that are no older than one time, and older than another
abbrev pub changes_between : Who → ℕ → ℕ → List Record → List Change
changes_between who since until rs = changes (filter (λ r. nat_le since r.0 && nat_lt r.0 until) (records_by who rs))

-- a time as a mark: how many of the session's changes are older
abbrev pub mark_at : Who → ℕ → List Record → ℕ
mark_at who time rs = length (before time (records_by who rs))

-- the changes that are no older than a time are the session's without as many as the time marks
abbrev pub MarksCut : List Record → Type 0
MarksCut rs = (who : Who) (time : ℕ) → changes_since who time rs ≡ drop (mark_at who time rs) (changes_by who rs)

-- the changes that are no older than a time are those that are older than a later one, and then the others
abbrev pub TimesCut : List Record → Type 0
TimesCut rs = (who : Who) (since until : ℕ) → since ≤ until → changes_since who since rs ≡ changes_between who since until rs ++ changes_since who until rs

-- the records of every other session are as before
abbrev pub OthersStay : Who → List Record → List Record → Type 0
OthersStay who old new = (other : Who) → other ≢ who → records_by other new ≡ records_by other old

-- the change comes behind what its session had
abbrev pub AddsLast : Change → List Record → List Record → Type 0
AddsLast c old new = changes_by (author c) new ≡ changes_by (author c) old ++ c ∷ []

-- the change is the last of what the session had, and the others of them are left
abbrev pub TakesLast : Who → List Record → List Record → Option Change → Type 0
TakesLast who old new None = (changes_by who old ≡ []) × (new ≡ old)
TakesLast who old new (Some c) = changes_by who old ≡ changes_by who new ++ c ∷ []
