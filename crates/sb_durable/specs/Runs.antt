-- Promise: a run whose steps are recorded before they are answered, and what a crash leaves of it.
use Rattle.std.specs.Prelude.{◌≡◌, ℕ, ◌≤◌, Bool, List, [], ◌∷◌, ◌++◌, length, map, filter_map, flat_map, codes, cond, Option, Some, None, Result, Ok, Err, IsTrue}
use Rattle.std.specs.Io.KnownBytes.{Appends}
use Rattle.sb_durable.specs.Journal.{Keeps}
use Rattle.sb_durable.specs.Records.{Entry as Record}
use Rattle.sb_durable.specs.declared.journal_header.Head.{Head}
use Rattle.sb_tenant.specs.declared.reply.Answer.{Answer}
use Rattle.sb_tenant.specs.declared.reply.Entry.{Entry}
use Rattle.sb_tenant.specs.State.{State}
use Rattle.sb_tenant.specs.Trail.{is_no_memory, state_of}
use Rattle.sb_cell.specs.declared.Event.{Event}
use Rattle.sb_cell.specs.declared.StepError.{StepError}
use Rattle.sb_cell.specs.Headline.{Run, IsRun}
use Rattle.sb_cell.specs.Tenants.{Cell, IsSame, hosts, states, trails}
use Rattle.sb_wire.specs.Apart.{RunsApart}
use Rattle.sb_wire.specs.Counts.{Response, step_reply, line_refusal, response_text}
use Rattle.sb_wire.specs.Lines.{Addressed, Piece, line, too_long, addressed_of, pieces_of}
use Rattle.sb_wire.specs.Output.{AreAnswers}
use Rattle.sb_wire.specs.Stream.{AnswersInput}
use Rattle.sb_wire.specs.declared.refusal.WireRefusal.TheVariants.{TooLong, BadLine}
use Rattle.sb_durable.specs.Restart.{AreRecords, ended, restarted}

-- ---- the lines of a run, and what they are recorded as

-- a line is answered by its step where it has the numbers of a tenant and a session, and is refused elsewhere
abbrev pub IsRespondedBy : Option Addressed → Response → Type 0
IsRespondedBy None response = response ≡ line_refusal BadLine
IsRespondedBy (Some own) response = (given : Result Answer StepError) × (response ≡ step_reply own given)

abbrev pub IsResponse : Piece → Response → Type 0
IsResponse too_long response = response ≡ line_refusal TooLong
IsResponse (line bytes) response = IsRespondedBy (addressed_of bytes) response

-- one to each line
abbrev pub AreResponses : List Piece → List Response → Type 0
AreResponses [] [] = Unit {0}
AreResponses (p ∷ ps) (r ∷ rs) = IsResponse p r × AreResponses ps rs
AreResponses [] (r ∷ rs) = ⊥
AreResponses (p ∷ ps) [] = ⊥

-- an event, and what it was answered
abbrev pub Step : Type 0
Step = Event × Result Answer StepError

abbrev pub event_of : Addressed → Event
event_of own = record { tenant = own.tenant; session = own.session; line = own.command }

abbrev pub step_of : Response → Option Step
step_of (step_reply own given) = Some (event_of own, given)
step_of (line_refusal r) = None

abbrev pub steps_of : List Response → List Step
steps_of responses = filter_map step_of responses

-- What a step is recorded as: its line; after want of memory in it, the line that does the same; and no line where there was no step.
abbrev pub record_of_answer : Event → Answer → Option ℕ → List Record
record_of_answer e answer None = []
record_of_answer e answer (Some n) = record { tenant = e.tenant; session = e.session; line = cond (is_no_memory answer.reply) (codes "rollback") e.line } ∷ []

abbrev pub records_of : Step → List Record
records_of (e, Ok answer) = record_of_answer e answer answer.number
records_of (e, Err error) = []

-- ---- a crash

-- the run of these steps, one after another
abbrev pub run_by : (ℕ → Bool) → (ℕ → List Entry) → List Step → (ℕ → List Entry) → Run
run_by hosts before steps after = record { hosts = hosts; before = before; events = map (λ p. p.0) steps; given = map (λ p. p.1) steps; after = after }

-- A file whose records make each tenant as it was after a first part of the steps, which has at least so many of them. A restart ends the sessions that are open there.
pub record Survives (old : Cell) (steps : List Step) (answered : ℕ) (head : Head) (file : List ℕ) : Type 0 where
  pub first : List Step
  pub more : List Step
  pub split : steps ≡ first ++ more
  pub enough : answered ≤ length first
  pub between : ℕ → List Entry
  pub run : IsRun old.bound (run_by (hosts old) (trails old) first between)
  pub records : List Record
  pub are : AreRecords records
  pub keeps : Keeps head records file
  pub states : (t : ℕ) → IsTrue (hosts old t) → restarted old.bound t records ≡ ended old.bound t (state_of t old.bound (between t))

-- Lines are answered from one cell to another, each tenant's as if it were alone, and a first part of the text is written. At most one step more was made, which couldn't be recorded and isn't answered.
-- Where the journal told what the tenants were, a crash leaves at least the steps that are answered.
pub record RunsRecorded (old new : Cell) (pieces : List Piece) (held holds : Option (List ℕ)) (left : List ℕ) (told_by : Head → Type 0) (crash : List ℕ → Type 0) : Type 0 where
  pub told : List Piece
  pub untold : List Piece
  pub split : pieces ≡ told ++ untold
  pub responses : List Response
  pub answers : AreResponses told responses
  pub between : ℕ → State
  pub answered : AreAnswers (hosts old) old.bound (states old) told (flat_map response_text responses) between
  pub apart : RunsApart (hosts old) old.bound (states old) told (flat_map response_text responses) between
  pub same : IsSame old new
  pub written : List ℕ
  pub whole : flat_map response_text responses ≡ written ++ left
  pub appends : Appends held holds written
  pub unanswered : List Step
  pub few : length unanswered ≤ 1
  pub last : unanswered ≡ [] → between ≡ states new
  pub run : IsRun old.bound (run_by (hosts old) (trails old) (steps_of responses ++ unanswered) (trails new))
  pub survives : (head : Head) → told_by head → (file : List ℕ) → crash file → Survives old (steps_of responses ++ unanswered) (length (steps_of responses)) head file

-- The text answers the lines of an input in order, each as a step of the cell or as a refusal, and each tenant's as if it were alone. The cell goes on from there.
pub record AnswersRecorded (old : Cell) (input text : List ℕ) (new : Cell) : Type 0 where
  pub responses : List Response
  pub answers : AreResponses (pieces_of input) responses
  pub whole : text ≡ flat_map response_text responses
  pub input_is_answered : AnswersInput old input text new
  pub run : IsRun old.bound (run_by (hosts old) (trails old) (steps_of responses) (trails new))
