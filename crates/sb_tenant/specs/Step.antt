-- Promise: one step of a tenant: a line of a session.
use Rattle.std.specs.Prelude.{ℕ, ◌+◌, Bool, true, false, not, ◌&&◌, nat_le, List, Option, Some, None, Result, Ok, Err, codes}
use Rattle.sb_tenant.specs.declared.bound.Bound.{Bound}
use Rattle.sb_value.specs.declared.refusal.Refusal.{Refusal}
use Rattle.sb_value.specs.declared.refusal.Refusal.TheVariants as refusal
use Rattle.sb_tenant.specs.declared.reply.Reply.{Reply}
use Rattle.sb_tenant.specs.declared.reply.Reply.TheVariants.{No}
use Rattle.sb_tenant.specs.declared.reply.Answer.{Answer}
use Rattle.sb_tenant.specs.Limits.{trail_limit}
use Rattle.sb_tenant.specs.State.{State, session_at, is_open, has_transaction, another_has_transaction}
use Rattle.sb_value.specs.Name.{same_name}
use Rattle.sb_syntax.specs.Tree.{Command}
use Rattle.sb_syntax.specs.Text.{command_of}
use Rattle.sb_tenant.specs.Resolved.{Resolved, Class, opens, ends, begins, defines, works}
use Rattle.sb_tenant.specs.Walk.{class_of, walk}
use Rattle.sb_tenant.specs.Perform.{perform}

-- the line `end` of an open session always has a place
abbrev pub is_end_of_open : State → ℕ → List ℕ → Bool
is_end_of_open state s line = is_open (session_at state s) && same_name line (codes "end")

-- the trail has no place for this line
abbrev pub is_full_for : State → ℕ → List ℕ → Bool
is_full_for state s line = nat_le trail_limit state.steps && not (is_end_of_open state s line)

-- the session's refusals, in order: not open, already open, in a transaction, without one, another's transaction
abbrev pub first_of : Bool → Refusal → Option Refusal → Option Refusal
first_of true r others = Some r
first_of false r others = others

-- by what a command asks of its session, and whether that is open, has a transaction, and another session has one
abbrev pub refusal_by : Class → Bool → Bool → Bool → Option Refusal
refusal_by opens opened own another = first_of opened refusal.AlreadyOpen None
refusal_by ends opened own another = first_of (not opened) refusal.NotOpen None
refusal_by begins opened own another = first_of (not opened) refusal.NotOpen (first_of own refusal.InTransaction None)
refusal_by defines opened own another = first_of (not opened) refusal.NotOpen (first_of own refusal.InTransaction (first_of another refusal.Busy None))
refusal_by works opened own another = first_of (not opened) refusal.NotOpen (first_of (not own) refusal.NoTransaction None)

abbrev pub session_refusal : Class → State → ℕ → Option Refusal
session_refusal class state s = refusal_by class (is_open (session_at state s)) (has_transaction (session_at state s)) (another_has_transaction state s)

-- the number of steps goes up by one and is the answer's number
abbrev pub numbered : State → State × Reply → State × Answer
numbered before r = let n = before.steps + 1 in (record r.0 { steps = n }, record { number = Some n; reply = r.1 })

module _ (tenant : ℕ) (bound : Bound) where
  -- a command is refused by its session, or else by its walk, or else is performed
  abbrev pub outcome_of : State → ℕ → Option Refusal → Result Resolved Refusal → State × Reply
  outcome_of state s (Some r) walked = (state, No r)
  outcome_of state s None (Err r) = (state, No r)
  outcome_of state s None (Ok resolved) = perform tenant bound state s resolved

  -- a command, in a session
  abbrev pub reply_to_command : State → ℕ → Command → State × Reply
  reply_to_command state s command = outcome_of state s (session_refusal (class_of command) state s) (walk state.catalog command)

  -- a line, in a session
  abbrev pub reply_to : State → ℕ → List ℕ → State × Reply
  reply_to state s line =
      elim (command_of line) [
        | None ↦ (state, No refusal.Syntax)
        | Some command ↦ reply_to_command state s command
      ]

  -- a full trail refuses, and nothing changes; else the line is answered, and its answer numbered
  abbrev pub step : State → ℕ → List ℕ → State × Answer
  step state s line =
      elim (is_full_for state s line) [
        | true ↦ (state, record { number = None; reply = No refusal.TrailFull })
        | false ↦ numbered state (reply_to state s line)
      ]
