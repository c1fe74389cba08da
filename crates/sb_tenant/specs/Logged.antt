-- Machine: a tenant's transactions in a log and its rules in an index that others use, too. Nothing is said of what is the others'.
use Rattle.std.specs.Prelude.{◌≡◌, ◌≤◌, ℕ, List, IsTrue}
use Rattle.sb_value.specs.declared.id.Who.{Who}
use Rattle.sb_rawlog.specs.Records.{Record}
use Rattle.sb_rawlog.specs.Sessions.{changes_by, mark_at}
use Rattle.sb_index.specs.TableSets.{TableSets}
use Rattle.sb_catalog.specs.Definitions.{AreIndexed}
use Rattle.sb_process.specs.Represents.{AreUntriggered}
use Rattle.sb_process.specs.Transactions.{Kept, mark_of, ArePast}
use Rattle.sb_tenant.specs.Limits.{is_session}
use Rattle.sb_tenant.specs.State.{State, session_at, changes_of, marks_of}

abbrev pub who_of : ℕ → ℕ → Who
who_of tenant s = record { tenant = tenant; session = s }

-- what the log has of each session, without the times, is the list of its transaction
abbrev pub HoldsTransactions : ℕ → State → List Record → Type 0
HoldsTransactions tenant state records = (s : ℕ) → IsTrue (is_session s) → changes_by (who_of tenant s) records ≡ changes_of (session_at state s)

-- a time up to the clock's stands for a mark: so many of the session's changes are older
abbrev pub StandsFor : ℕ → ℕ → State → List Record → ℕ → (ℕ → ℕ) → Type 0
StandsFor tenant s state records clock times =
    (rule : ℕ) → (times rule ≤ clock) × (mark_at (who_of tenant s) (times rule) records ≡ marks_of (session_at state s) rule)

-- the log has the transactions of a tenant in this state, a time for each of its marks; what its rules were tested for since then
-- doesn't trigger them; and the index has its active rules
pub record Agrees (tenant : ℕ) (state : State) (kept : Kept) (records : List Record) (clock : ℕ) (index : List (List TableSets)) : Type 0 where
  pub transactions : HoldsTransactions tenant state records
  pub marks : (s : ℕ) → IsTrue (is_session s) → StandsFor tenant s state records clock (mark_of kept s)
  pub past : (s : ℕ) → IsTrue (is_session s) → ArePast kept s clock
  pub untriggered : (s : ℕ) → IsTrue (is_session s) → AreUntriggered (who_of tenant s) kept records state.catalog.rules
  pub indexed : AreIndexed index tenant state.catalog.rules
