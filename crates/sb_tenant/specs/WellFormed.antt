-- Machine: what holds of each state that can be reached: of its marks, its locks and its lists of changes.
use Rattle.std.specs.Prelude.{◌≤◌, ℕ, List, length, IsTrue, IsFalse}
use Rattle.sb_tenant.specs.declared.bound.Bound.{Bound}
use Rattle.sb_value.specs.declared.lock.LockMode.{LockMode}
use Rattle.sb_value.specs.Table.{IsProper}
use Rattle.sb_process.specs.Represents.{AreLocked}
use Rattle.sb_tenant.specs.declared.reply.Entry.{Entry}
use Rattle.sb_tenant.specs.Limits.{is_session}
use Rattle.sb_tenant.specs.Represents.{AreExclusive}
use Rattle.sb_tenant.specs.State.{State, opening, session_at, has_transaction, changes_of, marks_of, tables_without}
use Rattle.sb_tenant.specs.Trail.{IsLegal}

-- every mark is a length that the session's list had; a session without a transaction has no locks;
-- a session has locked what it has changed; and what it has locked for writing no other has locked
pub record HasSoundLocks (state : State) : Type 0 where
  pub marks : (s rule : ℕ) → marks_of (session_at state s) rule ≤ length (changes_of (session_at state s))
  pub owned : (s t : ℕ) (m : LockMode) → IsFalse (has_transaction (session_at state s)) → IsFalse (state.locks s t m)
  pub locked : (s : ℕ) → AreLocked state.locks s (changes_of (session_at state s))
  pub exclusive : AreExclusive state.locks

-- each session's changes can be made, one after another, of the tables that it sees without them
abbrev pub HasProperLists : State → Type 0
HasProperLists state = (s : ℕ) → IsTrue (is_session s) → IsProper (tables_without state s) (changes_of (session_at state s))

abbrev pub IsWellFormed : State → Type 0
IsWellFormed state = HasSoundLocks state × HasProperLists state

-- so it is after each legal trail
abbrev pub StatesAreWellFormed : ℕ → Bound → Type 0
StatesAreWellFormed tenant bound = (trail : List Entry) (state : State) → IsLegal tenant bound opening trail state → IsWellFormed state
