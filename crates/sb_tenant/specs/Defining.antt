-- Machine: the commands that define what has a name: tables, rules and rulesets. They are done where no session has a transaction.
use Rattle.std.specs.Prelude.{◌≡◌, ◌⊎◌, ℕ, ◌+◌, ◌≤◌, length, unwrap_or, [], Bool, true, false, not, ◌&&◌, ◌==◌, List, Option, None, Result, Ok, Err, IsTrue, IsFalse}
use Rattle.std.specs.List.{list_any}
use Rattle.sb_tenant.specs.declared.bound.Bound.{Bound}
use Rattle.sb_value.specs.declared.refusal.Refusal.{Refusal}
use Rattle.sb_value.specs.declared.refusal.Refusal.TheVariants.{NoMemory}
use Rattle.sb_value.specs.Locks.{sessions}
use Rattle.sb_syntax.specs.Tree.{Command, create_rule, alter_rule, add_rules, del_rules}
use Rattle.sb_catalog.specs.declared.members.MemberChange.{MemberChange}
use Rattle.sb_catalog.specs.declared.members.MemberChange.TheVariants.{Added, Taken}
use Rattle.sb_rawlog.specs.Records.{Record}
use Rattle.sb_index.specs.TableSets.{TableSets}
use Rattle.sb_catalog.specs.Definitions.{OtherTenantsStay}
use Rattle.sb_process.specs.Made.{NumbersBelow}
use Rattle.sb_tenant.specs.declared.phase.Phase.{Phase}
use Rattle.sb_tenant.specs.declared.phase.Phase.TheVariants.{Closed, Idle, Active}
use Rattle.sb_tenant.specs.declared.reply.Reply.{Reply}
use Rattle.sb_tenant.specs.declared.reply.Reply.TheVariants as reply
use Rattle.sb_tenant.specs.declared.store.Store.{Store}
use Rattle.sb_tenant.specs.Limits.{is_session}
use Rattle.sb_tenant.specs.Represents.{StandFor, phase_at}
use Rattle.sb_tenant.specs.Resolved.{Class}
use Rattle.sb_tenant.specs.State.{State}
use Rattle.sb_tenant.specs.Step.{outcome_of, refusal_by}
use Rattle.sb_tenant.specs.Walk.{walk}

-- the command by which the members of a ruleset change
abbrev pub member_command : MemberChange → List ℕ → List (List ℕ) → Command
member_command Added = add_rules
member_command Taken = del_rules

-- whether a session of this phase has a transaction
abbrev pub is_under_way : Phase → Bool
is_under_way Closed = false
is_under_way Idle = false
is_under_way Active = true

-- whether a session of this phase is open
abbrev pub is_not_closed : Phase → Bool
is_not_closed Closed = false
is_not_closed Idle = true
is_not_closed Active = true

-- whether another session has a transaction
abbrev pub is_another_under_way : List Phase → ℕ → Bool
is_another_under_way phases s = list_any (λ o. not (o == s) && is_under_way (phase_at phases o)) sessions

-- what the phases refuse
abbrev pub phase_refusal : Class → List Phase → ℕ → Option Refusal
phase_refusal class phases s = refusal_by class (is_not_closed (phase_at phases s)) (is_under_way (phase_at phases s)) (is_another_under_way phases s)

-- no session has a transaction
abbrev pub IsAtRest : List Phase → Type 0
IsAtRest phases = (s : ℕ) → IsTrue (is_session s) → IsFalse (is_under_way (phase_at phases s))

-- the reply to a command that defines something
abbrev pub told : Result (Unit {0}) Refusal → Reply
told (Ok u) = reply.Ok
told (Err refusal) = reply.No refusal

-- what such a command is to do where its session refuses nothing: the walk refuses it, or it is done
abbrev pub defining : ℕ → Bound → State → ℕ → Command → State × Reply
defining tenant bound state s command = outcome_of tenant bound state s None (walk state.catalog command)

-- it is answered as it is meant; or memory ran out, and what stood still stands
abbrev pub IsDone : Store → List Record → ℕ → List (List TableSets) → State → State × Reply → Result (Unit {0}) Refusal → Type 0
IsDone new records clock index before meant result =
    ((told result ≡ meant.1) × StandFor new records clock index meant.0)
    ⊎ ((result ≡ Err NoMemory) × StandFor new records clock index before)

-- it is done whatever the log has of others; the tenant keeps its number, the index what it has of other tenants
pub record Defines (old new : Store) (before after : List (List TableSets)) (command : Command) (result : Result (Unit {0}) Refusal) : Type 0 where
  pub done : (records : List Record) (clock : ℕ) (state : State) (tenant : ℕ) (bound : Bound) (s : ℕ) → StandFor old records clock before state
      → IsDone new records clock after state (defining tenant bound state s command) result
  pub id : new.database.id ≡ old.database.id
  pub numbers : (n : ℕ) → NumbersBelow n old.database.tables → NumbersBelow (n + 2) new.database.tables
  pub others : OtherTenantsStay old.database.id before after

-- it is done, and leaves the index as it is
abbrev pub DefinesAlone : Store → Store → Command → Result (Unit {0}) Refusal → Type 0
DefinesAlone old new command result = (index : List (List TableSets)) → Defines old new index index command result

-- memory and the index stand for some state
abbrev pub Stands : Store → List (List TableSets) → Type 0
Stands store index = (records : List Record) × (clock : ℕ) × (state : State) × StandFor store records clock index state

-- a rule has 8 actions at most
abbrev pub HasFewActions : Command → Type 0
HasFewActions (create_rule r) = length r.actions ≤ 8
HasFewActions (alter_rule r) = length (unwrap_or r.actions []) ≤ 8
HasFewActions other = Unit {0}
