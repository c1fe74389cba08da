-- Promise: laws of trails, as statements.
use Rattle.std.specs.Prelude.{◌≡◌, ℕ, ◌+◌, ◌≤◌, ◌↔◌, Bool, true, false, not, ◌==◌, List, length, Option, Some, None, IsFalse}
use Rattle.sb_tenant.specs.declared.bound.Bound.{Bound}
use Rattle.sb_syntax.specs.Text.{command_of}
use Rattle.sb_syntax.specs.Tree.{Command, open_session, end_session}
use Rattle.sb_tenant.specs.Limits.{entry_limit}
use Rattle.sb_value.specs.declared.refusal.Refusal.TheVariants.{TrailFull}
use Rattle.sb_tenant.specs.declared.reply.Answer.{Answer}
use Rattle.sb_tenant.specs.declared.reply.Entry.{Entry}
use Rattle.sb_tenant.specs.declared.reply.Reply.TheVariants.{No}
use Rattle.sb_tenant.specs.Closing.{closes}
use Rattle.sb_tenant.specs.State.{State, opening, session_at, is_open, open_count}
use Rattle.sb_tenant.specs.Step.{step}
use Rattle.sb_tenant.specs.Trail.{is_no_memory, IsNext, IsLegal, Steps, after_entry, state_of}

-- whether the session is open after an own entry: `open` opens it and `end` closes it
abbrev pub open_by : Option Command → Bool → Bool
open_by (Some open_session) was = true
open_by (Some end_session) was = false
open_by command was = was

module _ (tenant : ℕ) (bound : Bound) where
  -- a legal trail fixes the state after it
  abbrev pub TrailsFixStates : Type 0
  TrailsFixStates = (before : State) (entries : List Entry) (one other : State) → IsLegal tenant bound before entries one → IsLegal tenant bound before entries other → one ≡ other

  -- the state after a legal trail is the one that the trail gives, and its number of steps is the trail's length
  abbrev pub LegalStatesAreReplayed : Type 0
  LegalStatesAreReplayed =
      (trail : List Entry) (state : State) → IsLegal tenant bound opening trail state →
      (state ≡ state_of tenant bound trail) × (state.steps ≡ length trail)

  -- a step has another reply than that memory ran out
  abbrev pub StepsHaveMemory : Type 0
  StepsHaveMemory = (state : State) (s : ℕ) (line : List ℕ) → IsFalse (is_no_memory (step tenant bound state s line).1.reply)

  -- an entry of another session leaves a session as it was
  abbrev pub OthersStay : Type 0
  OthersStay =
      (state : State) (entry : Entry) (s : ℕ) → IsFalse (s == entry.session) → session_at (after_entry tenant bound state entry) s ≡ session_at state s

  -- an entry that may come next opens or closes its own session as its command says, where memory didn't run out, and else leaves it open or closed
  abbrev pub OwnOpens : Type 0
  OwnOpens =
      (before after : State) (entry : Entry) → IsNext tenant bound before entry after →
      is_open (session_at after entry.session)
      ≡ elim (is_no_memory entry.reply) [ true ↦ is_open (session_at before entry.session) | false ↦ open_by (command_of entry.line) (is_open (session_at before entry.session)) ]

  -- an open session is open after an entry of its own, unless that is an `end` that was answered `ok`
  abbrev pub EndsClose : Type 0
  EndsClose =
      (before after : State) (entry : Entry) → IsNext tenant bound before entry after → is_open (session_at before entry.session) ≡ true →
      is_open (session_at after entry.session) ≡ not (closes entry.line entry.reply)

  -- a legal trail has no more entries than its limit, and one more for the end of each open session
  abbrev pub TrailsAreBounded : Type 0
  TrailsAreBounded = (trail : List Entry) (state : State) → IsLegal tenant bound opening trail state → length trail + open_count state ≤ entry_limit

  -- an answer has no number exactly where its reply is that the trail is full
  abbrev pub AnswersAreNumbered : Type 0
  AnswersAreNumbered =
      (trail new : List Entry) (s : ℕ) (line : List ℕ) (answer : Answer) → Steps tenant bound trail s line answer new → (answer.number ≡ None) ↔ (answer.reply ≡ No TrailFull)
