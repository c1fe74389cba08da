-- Machine: what a tenant keeps in memory, against its state.
use Rattle.std.specs.Prelude.{◌≡◌, ◌⊎◌, ℕ, ◌+◌, Bool, false, ◌==◌, List, flat_map, slice_index_or, None, Result, Ok, Err, IsTrue, IsFalse}
use Rattle.sb_tenant.specs.declared.bound.Bound.{Bound}
use Rattle.sb_value.specs.declared.change.Change.{Change}
use Rattle.sb_value.specs.declared.lock.LockMode.{LockMode}
use Rattle.sb_value.specs.declared.lock.LockMode.TheVariants.{Write}
use Rattle.sb_value.specs.declared.refusal.Refusal.{Refusal}
use Rattle.sb_value.specs.declared.refusal.Refusal.TheVariants.{NoMemory}
use Rattle.sb_value.specs.Locks.{Locks, sessions}
use Rattle.sb_rawlog.specs.Records.{Record}
use Rattle.sb_rawlog.specs.Sessions.{OthersStay as OtherRecordsStay}
use Rattle.sb_tables.specs.Held.{Held, entries}
use Rattle.sb_locks.specs.Held.{held}
use Rattle.sb_index.specs.TableSets.{TableSets}
use Rattle.sb_catalog.specs.Definitions.{AreOrdered}
use Rattle.sb_process.specs.declared.Processed.{Processed}
use Rattle.sb_process.specs.Made.{AreMade, NumbersBelow}
use Rattle.sb_process.specs.Process.{process}
use Rattle.sb_process.specs.Represents.{AreCandidates, AreLocked}
use Rattle.sb_process.specs.Statement.{RisesBy}
use Rattle.sb_process.specs.Work.{CanRun}
use Rattle.sb_tenant.specs.declared.phase.Phase.{Phase}
use Rattle.sb_tenant.specs.declared.phase.Phase.TheVariants.{Closed, Idle, Active}
use Rattle.sb_tenant.specs.declared.reply.Reply.{Reply}
use Rattle.sb_tenant.specs.declared.reply.Reply.TheVariants.{No}
use Rattle.sb_tenant.specs.declared.store.Store.{Store}
use Rattle.sb_tenant.specs.Limits.{is_session}
use Rattle.sb_tenant.specs.Logged.{Agrees, who_of}
use Rattle.sb_tenant.specs.Perform.{process_at, stays}
use Rattle.sb_tenant.specs.State.{State, Session, closed, idle, active, session_at, changes_of, setting_of, progress_of}
use Rattle.sb_tenant.specs.Trail.{aborted}

-- how far a session is
abbrev pub phase_of : Session → Phase
phase_of closed = Closed
phase_of idle = Idle
phase_of (active changes marks) = Active

abbrev pub phase_at : List Phase → ℕ → Phase
phase_at phases s = slice_index_or phases s Closed

-- the changes of all sessions
abbrev pub all_changes : State → List Change
all_changes state = flat_map (λ s. changes_of (session_at state s)) sessions

-- a table that a session has locked for writing is locked by no other session
abbrev pub AreExclusive : Locks → Type 0
AreExclusive locks = (s o t : ℕ) (m : LockMode) → IsTrue (is_session s) → IsTrue (is_session o) → IsFalse (s == o) → IsTrue (locks s t Write) → locks o t m ≡ false

-- the tables in memory are the committed ones with the changes of all sessions made, and each session has locked the tables that it changed;
-- locks, phases and candidates are those of the sessions; rules, their order and rulesets are the catalog's, and the rules can run
pub record Holds (origin : List Held) (store : Store) (state : State) : Type 0 where
  pub committed : entries origin ≡ state.catalog.tables
  pub made : AreMade origin (all_changes state) store.database.tables
  pub locked : (s : ℕ) → IsTrue (is_session s) → AreLocked state.locks s (changes_of (session_at state s))
  pub exclusive : AreExclusive state.locks
  pub locks : (s t : ℕ) (m : LockMode) → held store.database.locks s t m ≡ state.locks s t m
  pub phases : (s : ℕ) → IsTrue (is_session s) → phase_at store.phases s ≡ phase_of (session_at state s)
  pub candidates : (s : ℕ) → IsTrue (is_session s) → AreCandidates store.database.transactions s (progress_of None state s) state.catalog.rules
  pub rules : store.definitions.rules ≡ state.catalog.rules
  pub ordered : AreOrdered store.definitions.order state.catalog.rules state.catalog.pairs
  pub rulesets : store.definitions.rulesets ≡ state.catalog.rulesets
  pub runnable : CanRun store.database.tables state.catalog.rules

-- memory, the log and the index stand for a state
abbrev pub StandFor : Store → List Record → ℕ → List (List TableSets) → State → Type 0
StandFor store records clock index state =
    ((origin : List Held) × Holds origin store state) × Agrees store.database.id state store.database.transactions records clock index

-- for some state, with some index
abbrev pub StandForSome : Store → List Record → ℕ → Type 0
StandForSome store records clock = (index : List (List TableSets)) × (state : State) × StandFor store records clock index state

-- so much is said of each state that they stand for
abbrev pub EachState : Store → List Record → ℕ → List (List TableSets) → (State → Type 0) → Type 0
EachState store records clock index Says = (state : State) → StandFor store records clock index state → Says state

-- ---- what a call leaves

-- the reply is the one that is meant, and what stands is what is meant; or memory ran out, and the session's transaction is taken back
abbrev pub Performs : Store → List Record → ℕ → List (List TableSets) → State → ℕ → State × Reply → Reply → Type 0
Performs new records clock index before s meant reply =
    ((reply ≡ meant.1) × StandFor new records clock index meant.0)
    ⊎ ((reply ≡ No NoMemory) × StandFor new records clock index (aborted before s))

-- what stands in the middle of a call: with the session's transaction taken back it is what stood before, with it taken back
abbrev pub StandAside : Store → List Record → ℕ → List (List TableSets) → State → ℕ → Type 0
StandAside store records clock index before s = (during : State) × StandFor store records clock index during × (aborted during s ≡ aborted before s)

-- the refusal is the one that is meant, and what stands is what is meant; or memory ran out
abbrev pub Refuses : (State → Type 0) → State × Reply → Refusal → Type 0
Refuses stands meant refusal = ((meant.1 ≡ No refusal) × stands meant.0) ⊎ (refusal ≡ NoMemory)

-- the same of an answer
abbrev pub Comes : {A : Type 0} → (A → Reply) → (State → Type 0) → State × Reply → Result A Refusal → Type 0
Comes reply stands meant (Ok x) = (meant.1 ≡ reply x) × stands meant.0
Comes reply stands meant (Err refusal) = Refuses stands meant refusal

-- the outcome and the verdicts of an assertion point, and what stands after it
pub record Finds (tenant : ℕ) (new : Store) (records : List Record) (clock : ℕ) (index : List (List TableSets)) (before : State) (s : ℕ) (bound : Bound) (eligible : ℕ → Bool) (found : Processed) : Type 0 where
  pub outcome : found.outcome ≡ (process bound.considerations (setting_of tenant before s) eligible (progress_of bound.work before s)).outcome
  pub trace : found.trace ≡ (process bound.considerations (setting_of tenant before s) eligible (progress_of bound.work before s)).trace
  pub stands : StandFor new records clock index (process_at tenant bound before s eligible stays).0

-- the tenant keeps its number; the records of other sessions stay; the clock and the tables' next numbers rise by n at most
pub record Leaves (n : ℕ) (old new : Store) (s : ℕ) (before after : List Record) (clock later : ℕ) : Type 0 where
  pub id : new.database.id ≡ old.database.id
  pub others : OtherRecordsStay (who_of old.database.id s) before after
  pub times : RisesBy n clock later
  pub numbers : (m : ℕ) → NumbersBelow m old.database.tables → NumbersBelow (m + n) new.database.tables
