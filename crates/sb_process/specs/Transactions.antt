-- Promise: what a tenant keeps of its sessions' transactions beside their changes.
use Rattle.std.specs.Prelude.{◌≡◌, ◌≤◌, ℕ, Bool, false, ◌&&◌, ◌==◌, if◌then◌else◌, List, [], slice_index, slice_index_or}
use Rattle.sb_value.specs.Flags.{flag_at}
use Rattle.sb_process.specs.declared.times.Times.{Times}

-- for each rule two times in each session; for each session the rules whose times count, and its candidates
pub record Kept : Type 0 where
  pub rows : List Times
  pub marked : List (List Bool)
  pub candidates : List (List Bool)

-- the times of a rule
abbrev pub times_of : List Times → ℕ → Times
times_of rows rule = slice_index_or rows rule (record { marks = []; tested = [] })

-- the time of a rule's mark that its row has for a session, and the time up to which the row says that it was tested
abbrev pub mark_in : List Times → ℕ → ℕ → ℕ
mark_in rows session rule = slice_index (times_of rows rule).marks session

abbrev pub tested_in : List Times → ℕ → ℕ → ℕ
tested_in rows session rule = slice_index (times_of rows rule).tested session

-- in the times of a rule that of a session is set
abbrev pub SetsOwn : ℕ → ℕ → List ℕ → List ℕ → Type 0
SetsOwn session time old new = (s : ℕ) → slice_index new s ≡ (if s == session then time else slice_index old s)

-- the time of a rule in a session is set, and no other
abbrev pub SetsTime : ℕ → ℕ → ℕ → (ℕ → ℕ → ℕ) → (ℕ → ℕ → ℕ) → Type 0
SetsTime session rule time old new = (s r : ℕ) → new s r ≡ (if (s == session) && (r == rule) then time else old s r)

-- whether a rule's times count in the session's transaction
abbrev pub is_marked : Kept → ℕ → ℕ → Bool
is_marked kept session rule = flag_at (slice_index_or kept.marked session []) rule

-- the time of a rule's mark
abbrev pub mark_of : Kept → ℕ → ℕ → ℕ
mark_of kept session rule = if is_marked kept session rule then mark_in kept.rows session rule else 0

-- the time up to which the changes since a rule's mark were found not to trigger it
abbrev pub tested_of : Kept → ℕ → ℕ → ℕ
tested_of kept session rule = if is_marked kept session rule then tested_in kept.rows session rule else 0

-- a rule was tested no earlier than its mark was set, and before now
abbrev pub ArePast : Kept → ℕ → ℕ → Type 0
ArePast kept session clock = (rule : ℕ) → (mark_of kept session rule ≤ tested_of kept session rule) × (tested_of kept session rule ≤ clock)

-- whether the rule is one of the session's candidates
abbrev pub is_candidate_of : Kept → ℕ → ℕ → Bool
is_candidate_of kept session rule = flag_at (slice_index_or kept.candidates session []) rule

-- the times and the candidates of the other sessions stay
abbrev pub OtherSessionsStay : Kept → Kept → ℕ → Type 0
OtherSessionsStay old new session =
    (s r : ℕ) → (s == session) ≡ false → (mark_of new s r ≡ mark_of old s r) × (tested_of new s r ≡ tested_of old s r) × (is_candidate_of new s r ≡ is_candidate_of old s r)
