-- Promise: each tenant's answers and trail are those of a tenant that is alone.
use Rattle.std.specs.Prelude.{◌≡◌, ℕ, Bool, List, [], ◌∷◌, map, length, Result, Ok, Err, IsTrue}
use Rattle.sb_tenant.specs.declared.bound.Bound.{Bound}
use Rattle.sb_value.specs.declared.refusal.Refusal.TheVariants.{NoMemory}
use Rattle.sb_tenant.specs.declared.reply.Answer.{Answer}
use Rattle.sb_tenant.specs.declared.reply.Entry.{Entry}
use Rattle.sb_tenant.specs.declared.reply.Reply.TheVariants.{No}
use Rattle.sb_tenant.specs.Trail.{IsTrail, state_of, answers, state_after}
use Rattle.sb_cell.specs.declared.Event.{Event}
use Rattle.sb_cell.specs.declared.StepError.{StepError}
use Rattle.sb_cell.specs.Events.{own_events, own_answers, AreTurns, AreEvents}

-- what a run of a cell is: the tenants that it hosts, their trails before, the events, the answers, and the trails after
pub record Run : Type 0 where
  pub hosts : ℕ → Bool
  pub before : ℕ → List Entry
  pub events : List Event
  pub given : List (Result Answer StepError)
  pub after : ℕ → List Entry

-- the answers to a tenant's own events
abbrev pub own_given : Run → ℕ → List (Result Answer StepError)
own_given run t = own_answers t run.events run.given

-- the events one after another were answered so, and each left the trails to the next
abbrev pub IsRun : Bound → Run → Type 0
IsRun bound run = AreEvents bound run.hosts run.before run.events run.given run.after

-- the trails of the hosted tenants are legal
abbrev pub BeginsLegal : Bound → Run → Type 0
BeginsLegal bound run = (t : ℕ) → IsTrue (run.hosts t) → IsTrail t bound (run.before t)

-- The theorem on whole runs, with want of memory: there is one answer for each event, and for every tenant that the cell hosts
-- those to its own events are in turn steps, aborts, or steps that were not begun; the ones with numbers extend its trail.
pub record RunsInTurn (bound : Bound) (run : Run) : Type 0 where
  pub one_each : length run.given ≡ length run.events
  pub turns : (t : ℕ) → IsTrue (run.hosts t) → AreTurns bound t (run.before t) (own_events t run.events) (own_given run t) (run.after t)

-- neither want of memory in a step, nor a step that was not begun
abbrev pub AreServed : List (Result Answer StepError) → Type 0
AreServed [] = Unit {0}
AreServed (Err e ∷ rest) = ⊥
AreServed (Ok a ∷ rest) = (a.reply ≡ No NoMemory → ⊥) × AreServed rest

-- a tenant that is alone answers these lines so, and its state after them is that of the trail
abbrev pub IsAlone : Bound → ℕ → List Entry → List (ℕ × List ℕ) → List (Result Answer StepError) → List Entry → Type 0
IsAlone bound t before lines given after =
    (given ≡ map (λ a. Ok a) (answers t bound (state_of t bound before) lines))
    × (state_of t bound after ≡ state_after t bound (state_of t bound before) lines)

-- Without want of memory: for every list of events of all tenants' sessions, and for every tenant that the cell hosts and that met no want of memory,
-- its answers and its state are those of the tenant alone, which sees its own events and nothing else.
pub record RunsAlone (bound : Bound) (run : Run) : Type 0 where
  pub one_each : length run.given ≡ length run.events
  pub alone : (t : ℕ) → IsTrue (run.hosts t) → AreServed (own_given run t) → IsAlone bound t (run.before t) (own_events t run.events) (own_given run t) (run.after t)

-- Two runs that agree on a tenant's state before and on its own events, neither with want of memory there, give it equal answers and equal states,
-- whatever else the cells host and whatever the other tenants do.
abbrev pub AnswerAlike : Bound → Run → Run → Type 0
AnswerAlike bound one other =
    (t : ℕ) → IsTrue (one.hosts t) → IsTrue (other.hosts t) → AreServed (own_given one t) → AreServed (own_given other t) →
    state_of t bound (one.before t) ≡ state_of t bound (other.before t) → own_events t one.events ≡ own_events t other.events →
    (own_given one t ≡ own_given other t) × (state_of t bound (one.after t) ≡ state_of t bound (other.after t))
