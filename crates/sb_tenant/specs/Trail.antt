-- Promise: trails: an abort, which entry may come next, the legal trails, and the state that a trail gives.
use Rattle.std.specs.Prelude.{◌≡◌, ℕ, ◌+◌, Bool, true, false, ◌⊎◌, List, [], ◌∷◌, ◌++◌, length, Some, None, IsTrue, IsFalse}
use Rattle.sb_tenant.specs.declared.bound.Bound.{Bound}
use Rattle.sb_value.specs.declared.refusal.Refusal.TheVariants.{NoMemory, TrailFull}
use Rattle.sb_tenant.specs.declared.reply.Reply.{Reply}
use Rattle.sb_tenant.specs.declared.reply.Reply.TheVariants.{No}
use Rattle.sb_tenant.specs.declared.reply.Answer.{Answer}
use Rattle.sb_tenant.specs.declared.reply.Entry.{Entry}
use Rattle.sb_tenant.specs.Limits.{is_session}
use Rattle.sb_tenant.specs.State.{State, opening, session_at, has_transaction, rolled_back}
use Rattle.sb_tenant.specs.Step.{step, is_full_for, is_end_of_open}

-- the session's transaction, if there is one, is rolled back
abbrev pub aborted : State → ℕ → State
aborted state s = elim (has_transaction (session_at state s)) [ true ↦ rolled_back state s | false ↦ state ]

-- an abort is a step
abbrev pub after_abort : State → ℕ → State
after_abort state s = record (aborted state s) { steps = state.steps + 1 }

-- a step may be aborted where the trail has a place for it and it is not the end of an open session
abbrev pub MayAbort : State → ℕ → List ℕ → Type 0
MayAbort state s line = IsFalse (is_full_for state s line) × IsFalse (is_end_of_open state s line)

-- the reply of an abort
abbrev pub is_no_memory : Reply → Bool
is_no_memory (No NoMemory) = true
is_no_memory reply = false

-- the entry of a line and its reply
abbrev pub entry_of : ℕ → List ℕ → Reply → Entry
entry_of s line reply = record { session = s; line = line; reply = reply }

module _ (tenant : ℕ) (bound : Bound) where
  -- an entry as a step with its number, or as an abort
  abbrev pub IsStep : State → Entry → State → Type 0
  IsStep before entry after =
      (entry.reply ≡ No NoMemory → ⊥) × (step tenant bound before entry.session entry.line ≡ (after, record { number = Some (before.steps + 1); reply = entry.reply }))

  abbrev pub IsAbort : State → Entry → State → Type 0
  IsAbort before entry after =
      (entry.reply ≡ No NoMemory) × (after ≡ after_abort before entry.session) × MayAbort before entry.session entry.line

  -- the entry of one of the tenant's sessions that may come next, and the state after it
  abbrev pub IsNext : State → Entry → State → Type 0
  IsNext before entry after = IsTrue (is_session entry.session) × (IsStep before entry after ⊎ IsAbort before entry after)

  -- each entry in turn may come next
  abbrev pub IsLegal : State → List Entry → State → Type 0
  IsLegal before [] after = after ≡ before
  IsLegal before (entry ∷ entries) after = (mid : State) × IsNext before entry mid × IsLegal mid entries after

  -- ---- the state that a trail gives: it is replayed

  -- an entry is a step, or an abort where its reply says so
  abbrev pub after_entry : State → Entry → State
  after_entry state entry =
      elim (is_no_memory entry.reply) [ true ↦ after_abort state entry.session | false ↦ (step tenant bound state entry.session entry.line).0 ]

  -- one entry after another
  abbrev pub replayed : State → List Entry → State
  replayed state [] = state
  replayed state (entry ∷ entries) = replayed (after_entry state entry) entries

  -- from the opening state
  abbrev pub state_of : List Entry → State
  state_of trail = replayed opening trail

  -- a trail that is legal from the opening state
  abbrev pub IsTrail : List Entry → Type 0
  IsTrail trail = IsLegal opening trail (state_of trail)

  -- ---- what a call does to the trail

  -- one entry more, whose number is the trail's new length
  abbrev pub Extends : List Entry → ℕ → List ℕ → Answer → List Entry → Type 0
  Extends trail s line answer new =
      (new ≡ trail ++ entry_of s line answer.reply ∷ []) × (answer.number ≡ Some (length new)) × IsNext (state_of trail) (entry_of s line answer.reply) (state_of new)

  -- or the trail is full, and nothing changes
  abbrev pub IsFull : List Entry → ℕ → List ℕ → Answer → List Entry → Type 0
  IsFull trail s line answer new =
      IsTrue (is_full_for (state_of trail) s line) × (answer ≡ record { number = None; reply = No TrailFull }) × (new ≡ trail)

  -- or, in a call that makes no step for want of memory, nothing changes, either
  abbrev pub IsNotBegun : List Entry → ℕ → List ℕ → List Entry → Type 0
  IsNotBegun trail s line new = (new ≡ trail) × MayAbort (state_of trail) s line

  -- so a call that makes a step leaves the trail
  abbrev pub Steps : List Entry → ℕ → List ℕ → Answer → List Entry → Type 0
  Steps trail s line answer new = Extends trail s line answer new ⊎ IsFull trail s line answer new

  -- ---- runs without want of memory

  -- the answers to these lines of these sessions, one after another, and the state after them
  abbrev pub answers : State → List (ℕ × List ℕ) → List Answer
  answers state [] = []
  answers state (e ∷ es) = let r = step tenant bound state e.0 e.1 in r.1 ∷ answers r.0 es

  abbrev pub state_after : State → List (ℕ × List ℕ) → State
  state_after state [] = state
  state_after state (e ∷ es) = state_after (step tenant bound state e.0 e.1).0 es
