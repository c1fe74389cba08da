-- Promise: the state of a tenant.
use Rattle.std.specs.Prelude.{ℕ, Bool, true, false, not, ◌==◌, ◌&&◌, if◌then◌else◌, List, [], filter, find, length, count_by, sum_by, flat_map, Option, option_map}
use Rattle.std.specs.List.{list_any}
use Rattle.sb_value.specs.declared.change.Change.{Change}
use Rattle.sb_value.specs.Name.{same_name}
use Rattle.sb_value.specs.Table.{Table, Entry, after_all}
use Rattle.sb_value.specs.Locks.{Locks, no_locks, released, sessions}
use Rattle.sb_catalog.specs.Ruleset.{Ruleset}
use Rattle.sb_catalog.specs.declared.rule.Rule.{Rule}
use Rattle.sb_process.specs.Setting.{Setting, Progress}

-- closed; open with no transaction; or with one: its changes, and a mark for each rule
pub data Session : Type 0 where
  closed : Session
  idle : Session
  active : List Change → (ℕ → ℕ) → Session

-- what has a name: tables with their committed rows, rules in order of creation, rulesets; and the pairs of precedence
pub record Catalog : Type 0 where
  pub tables : List Entry
  pub rules : List Rule
  pub rulesets : List Ruleset
  pub pairs : List (ℕ × ℕ)

-- the catalog with the committed tables, the locks, the sessions and the number of steps
pub record State : Type 0 where
  pub catalog : Catalog
  pub locks : Locks
  pub sessions : ℕ → Session
  -- how many steps were made
  pub steps : ℕ

-- at first there is nothing, and all sessions are closed
abbrev pub opening : State
opening = record {
  catalog = record { tables = []; rules = []; rulesets = []; pairs = [] };
  locks = no_locks;
  sessions = λ s. closed;
  steps = 0;
}

-- the session of that number
abbrev pub session_at : State → ℕ → Session
session_at state s = state.sessions s

-- the state with one session put anew
abbrev pub with_session : State → ℕ → Session → State
with_session state s session = record state { sessions = λ o. if o == s then session else session_at state o }

-- whether a session is open
abbrev pub is_open : Session → Bool
is_open closed = false
is_open idle = true
is_open (active changes marks) = true

-- whether a session has a transaction
abbrev pub has_transaction : Session → Bool
has_transaction closed = false
has_transaction idle = false
has_transaction (active changes marks) = true

-- how many sessions are open
abbrev pub open_count : State → ℕ
open_count state = count_by (λ s. is_open (session_at state s)) sessions

-- the changes of its transaction
abbrev pub changes_of : Session → List Change
changes_of closed = []
changes_of idle = []
changes_of (active changes marks) = changes

-- the marks of its transaction
abbrev pub marks_of : Session → ℕ → ℕ
marks_of closed id = 0
marks_of idle id = 0
marks_of (active changes marks) id = marks id

-- whether another session has a transaction
abbrev pub another_has_transaction : State → ℕ → Bool
another_has_transaction state s = list_any (λ o. not (o == s) && has_transaction (session_at state o)) sessions

-- the tables seen: the committed ones with the changes of every transaction, since one session at most has changed a table
abbrev pub tables_without : State → ℕ → List Entry
tables_without state s = after_all (flat_map (λ o. changes_of (session_at state o)) (filter (λ o. not (o == s)) sessions)) state.catalog.tables

-- with the changes of all sessions
abbrev pub tables_seen : State → List Entry
tables_seen state = after_all (flat_map (λ o. changes_of (session_at state o)) sessions) state.catalog.tables

-- the table of that name, as it is seen
abbrev pub table_seen : State → List ℕ → Option Table
table_seen state name = option_map (λ e. e.table) (find (λ e. same_name e.name name) (tables_seen state))

-- how many changes the open transactions have
abbrev pub change_count : State → ℕ
change_count state = sum_by (λ s. length (changes_of (session_at state s))) sessions

-- what rule processing in a session works on
abbrev pub setting_of : ℕ → State → ℕ → Setting
setting_of tenant state s = record {
  who = record { tenant = tenant; session = s };
  rules = state.catalog.rules;
  pairs = state.catalog.pairs;
  base = tables_without state s;
}

-- where its transaction stands, with so much left to the step
abbrev pub progress_of : Option ℕ → State → ℕ → Progress
progress_of left state s = record { changes = changes_of (session_at state s); marks = marks_of (session_at state s); locks = state.locks; left = left }

-- the transaction goes on as the progress has it
abbrev pub with_progress : State → ℕ → Progress → State
with_progress state s progress = record (with_session state s (active progress.changes progress.marks)) { locks = progress.locks }

-- the session without a transaction: its changes are dropped and its locks released
abbrev pub rolled_back : State → ℕ → State
rolled_back state s = record (with_session state s idle) { locks = released state.locks s }

-- its changes are applied to the committed tables
abbrev pub committed : State → ℕ → State
committed state s =
    record (rolled_back state s) { catalog = record state.catalog { tables = after_all (changes_of (session_at state s)) state.catalog.tables } }
