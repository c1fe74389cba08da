-- Machine: what memory and a log hold of a session's transaction.
use Rattle.std.specs.Prelude.{◌≡◌, ◌≤◌, ℕ, Bool, ◌&&◌, nat_lt, List, [], ◌∷◌, Option, IsTrue, IsFalse}
use Rattle.sb_value.specs.declared.change.Change.{Change}
use Rattle.sb_value.specs.declared.id.Who.{Who}
use Rattle.sb_value.specs.declared.lock.LockMode.{LockMode}
use Rattle.sb_value.specs.declared.lock.LockMode.TheVariants.{Write}
use Rattle.sb_value.specs.Locks.{Locks, released}
use Rattle.sb_value.specs.NetEffect.{is_triggered}
use Rattle.sb_rawlog.specs.Records.{Record}
use Rattle.sb_rawlog.specs.Sessions.{changes_by, changes_between, mark_at}
use Rattle.sb_tables.specs.Held.{Held, entries}
use Rattle.sb_locks.specs.Held.{held}
use Rattle.sb_catalog.specs.declared.rule.Rule.{Rule}
use Rattle.sb_process.specs.declared.database.Database.{Database}
use Rattle.sb_process.specs.Made.{AreMade}
use Rattle.sb_process.specs.Sharing.{settled_where}
use Rattle.sb_process.specs.Transactions.{Kept, mark_of, tested_of, is_candidate_of, ArePast, OtherSessionsStay}
use Rattle.sb_process.specs.Setting.{Setting, Progress, rule_is_triggered, tables_seen}

-- the session of the tenant
abbrev pub who_in : Database → ℕ → Who
who_in database session = record { tenant = database.id; session = session }

-- each active rule that its transition triggers is a candidate
abbrev pub AreCandidates : Kept → ℕ → Progress → List Rule → Type 0
AreCandidates kept session progress [] = Unit {0}
AreCandidates kept session progress (rule ∷ rules) =
    (IsTrue rule.active → IsTrue (rule_is_triggered progress rule) → IsTrue (is_candidate_of kept session rule.id)) × AreCandidates kept session progress rules

-- the changes since a rule's mark up to its last test don't trigger it
abbrev pub AreUntriggered : Who → Kept → List Record → List Rule → Type 0
AreUntriggered who kept records [] = Unit {0}
AreUntriggered who kept records (rule ∷ rules) =
    IsFalse (is_triggered rule.triggers rule.table (changes_between who (mark_of kept who.session rule.id) (tested_of kept who.session rule.id) records))
    × AreUntriggered who kept records rules

-- each table that is changed is locked for writing
abbrev pub AreLocked : Locks → ℕ → List Change → Type 0
AreLocked locks session [] = Unit {0}
AreLocked locks session (c ∷ cs) = IsTrue (locks session c.table Write) × AreLocked locks session cs

-- what the log has of the session is the transaction's list; a time that isn't past the clock stands for each mark;
-- a rule was last tested after its mark, and what it was tested for doesn't trigger it;
-- the tables are those that stand without the transaction, with its changes made; the locks are those that are held,
-- and as much is left of the step's budget
pub record Represents (origin : List Held) (database : Database) (session : ℕ) (records : List Record) (clock : ℕ) (setting : Setting) (progress : Progress) : Type 0 where
  pub who : setting.who ≡ who_in database session
  pub changes : changes_by (who_in database session) records ≡ progress.changes
  pub past : (rule : ℕ) → mark_of database.transactions session rule ≤ clock
  pub tested : ArePast database.transactions session clock
  pub untriggered : AreUntriggered (who_in database session) database.transactions records setting.rules
  pub marks : (rule : ℕ) → progress.marks rule ≡ mark_at (who_in database session) (mark_of database.transactions session rule) records
  pub base : entries origin ≡ setting.base
  pub made : AreMade origin progress.changes database.tables
  pub locks : (s t : ℕ) (m : LockMode) → held database.locks s t m ≡ progress.locks s t m
  pub locked : AreLocked progress.locks session progress.changes
  pub candidates : AreCandidates database.transactions session progress setting.rules
  pub left : database.left ≡ progress.left

-- whether the session has locked one of the 16 tables for writing
abbrev pub is_written : Locks → ℕ → ℕ → Bool
is_written locks session table = nat_lt table 16 && locks session table Write

-- some transaction of the session is what memory and the log hold
abbrev pub IsTransaction : Database → ℕ → List Record → ℕ → Type 0
IsTransaction database session records clock = (origin : List Held) × (setting : Setting) × (progress : Progress) × Represents origin database session records clock setting progress

-- so much is said of each transaction of the session that they hold
abbrev pub EachTransaction : Database → ℕ → List Record → ℕ → (List Held → Setting → Progress → Type 0) → Type 0
EachTransaction database session records clock Says =
    (origin : List Held) (setting : Setting) (progress : Progress) → Represents origin database session records clock setting progress
    → Says origin setting progress

-- ---- the ends of a transaction

-- the session has no changes; the tables are those that stand without them, and its locks are released
pub record IsTakenBack (origin : List Held) (old new : Database) (session : ℕ) (records : List Record) (setting : Setting) (progress : Progress) : Type 0 where
  pub id : new.id ≡ old.id
  pub none : changes_by (who_in new session) records ≡ []
  pub tables : entries new.tables ≡ setting.base
  pub made : AreMade origin [] new.tables
  pub locks : (s t : ℕ) (m : LockMode) → held new.locks s t m ≡ released progress.locks session s t m
  pub sessions : OtherSessionsStay old.transactions new.transactions session

-- the session has no changes; the tables are as the transaction saw them, sound for the next one; those that it had locked for writing are settled
pub record IsKept (old new : Database) (session : ℕ) (records : List Record) (setting : Setting) (progress : Progress) : Type 0 where
  pub id : new.id ≡ old.id
  pub none : changes_by (who_in new session) records ≡ []
  pub tables : entries new.tables ≡ tables_seen setting progress
  pub made : AreMade new.tables [] new.tables
  pub settled : new.tables ≡ settled_where (is_written progress.locks session) old.tables
  pub locks : (s t : ℕ) (m : LockMode) → held new.locks s t m ≡ released progress.locks session s t m
  pub sessions : OtherSessionsStay old.transactions new.transactions session

-- ---- the beginning of a transaction

-- no changes, all marks at 0, and so much is left
abbrev pub begun : Locks → Option ℕ → Progress
begun locks left = record { changes = []; marks = λ rule. 0; locks = locks; left = left }

-- the session has no transaction, and the tables stand without one
pub record IsIdle (origin : List Held) (database : Database) (session : ℕ) (records : List Record) (setting : Setting) : Type 0 where
  pub who : setting.who ≡ who_in database session
  pub none : changes_by (who_in database session) records ≡ []
  pub base : entries origin ≡ setting.base
  pub made : AreMade origin [] database.tables
