-- Promise: what a stream has answered, in numbers, and the line that tells it.
use Rattle.std.specs.Prelude.{◌≡◌, ◌==◌, ◌<◌, ◌+◌, ℕ, Bool, true, false, if◌then◌else◌, List, [], ◌∷◌, ◌++◌, Option, Some, None, is_some, Result, Ok, Err, length, filter, flat_map, map, codes, decimal, slice_index}
use Rattle.std.specs.Io.Iter.{u64_saturate}
use Rattle.sb_value.specs.declared.refusal.Refusal.{Refusal}
use Rattle.sb_value.specs.declared.refusal.Refusal.TheVariants as refusal
use Rattle.sb_value.specs.Refusal.{refusal_number, refusal_name}
use Rattle.sb_tenant.specs.declared.reply.Answer.{Answer}
use Rattle.sb_tenant.specs.declared.reply.Reply.{Reply}
use Rattle.sb_tenant.specs.declared.reply.Reply.TheVariants as reply
use Rattle.sb_cell.specs.declared.StepError.{StepError}
use Rattle.sb_cell.specs.declared.StepError.TheVariants.{NoTenant, NoSession, NotBegun}
use Rattle.sb_wire.specs.Lines.{Piece, Addressed, newline, space}
use Rattle.sb_wire.specs.Output.{answer_text, no_address, prefixed}
use Rattle.sb_wire.specs.Seen.{refusal_line, wire_number, wire_name}
use Rattle.sb_wire.specs.declared.refusal.WireRefusal.{WireRefusal}
use Rattle.sb_wire.specs.declared.refusal.WireRefusal.TheVariants as wire
use Rattle.sb_wire.specs.declared.summary.Summary.{Summary}

-- what answers a line: its step's answer behind its numbers, or a refusal where it has none
pub data Response : Type 0 where
  step_reply : Addressed → Result Answer StepError → Response
  line_refusal : WireRefusal → Response

abbrev pub response_text : Response → List ℕ
response_text (step_reply line given) = answer_text line given
response_text (line_refusal r) = prefixed no_address (refusal_line r ∷ [])

-- the number of the refusal that a reply is
abbrev pub refusal_said : Reply → Option ℕ
refusal_said (reply.No r) = Some (refusal_number r)
refusal_said other = None

abbrev pub refusal_given : Result Answer StepError → Option ℕ
refusal_given (Ok answer) = refusal_said answer.reply
refusal_given (Err NoTenant) = Some (wire_number wire.NoTenant)
refusal_given (Err NoSession) = Some (wire_number wire.NoSession)
refusal_given (Err NotBegun) = Some (wire_number wire.NotBegun)

abbrev pub refusal_of : Response → Option ℕ
refusal_of (step_reply line given) = refusal_given given
refusal_of (line_refusal r) = Some (wire_number r)

-- a step is what has a number in the trail
abbrev pub has_number : Result Answer StepError → Bool
has_number (Ok answer) = is_some answer.number
has_number (Err e) = false

abbrev pub is_step : Response → Bool
is_step (step_reply line given) = has_number given
is_step (line_refusal r) = false

abbrev pub is_number : ℕ → Option ℕ → Bool
is_number n None = false
is_number n (Some m) = m == n

-- how many of the responses are such; no count goes past 2^64 - 1
abbrev pub count_of : (Response → Bool) → List Response → ℕ
count_of test responses = u64_saturate (length (filter test responses))

-- a count that goes up by one, or stays
abbrev pub one_more : Bool → ℕ → ℕ
one_more counted count = if counted then u64_saturate (count + 1) else count

-- the summary of these responses: how many lines, how many steps, and for each number how many refusals
pub record IsSummary (responses : List Response) (s : Summary) : Type 0 where
  pub lines : s.lines ≡ count_of (λ r. true) responses
  pub steps : s.steps ≡ count_of is_step responses
  pub refused : (n : ℕ) → n < 256 → slice_index s.refused n ≡ count_of (λ r. is_number n (refusal_of r)) responses

-- what was the summary of any responses is then that of these, too
pub record Adds (old : Summary) (responses : List Response) (new : Summary) : Type 0 where
  pub behind : (before : List Response) → IsSummary before old → IsSummary (before ++ responses) new

-- the text is that of responses, one to each line, and the summary counts them
pub record Counts (lines : List Piece) (text : List ℕ) (old new : Summary) : Type 0 where
  pub responses : List Response
  pub each : length responses ≡ length lines
  pub whole : text ≡ flat_map response_text responses
  pub adds : Adds old responses new

-- and it has counted nothing else
pub record Summarizes (lines : List Piece) (text : List ℕ) (s : Summary) : Type 0 where
  pub responses : List Response
  pub each : length responses ≡ length lines
  pub whole : text ≡ flat_map response_text responses
  pub is : IsSummary responses s

-- ---- the summary's line

abbrev pub of_command : Refusal → ℕ × List ℕ
of_command r = (refusal_number r, refusal_name r)

abbrev pub of_wire : WireRefusal → ℕ × List ℕ
of_wire r = (wire_number r, wire_name r)

-- the refusals of commands but Syntax, and those of lines that are told before them, in the order of their numbers
abbrev pub of_commands : List Refusal
of_commands =
    refusal.NoTable ∷ refusal.TableExists ∷ refusal.NoColumn ∷ refusal.BadType ∷ refusal.Ambiguous ∷ refusal.WrongCount ∷ refusal.BadTransition
    ∷ refusal.Overflow ∷ refusal.TooBig ∷ refusal.TooManyRows
    ∷ refusal.Locked [] ∷ refusal.InTransaction ∷ refusal.NoTransaction ∷ refusal.Busy ∷ refusal.NotOpen ∷ refusal.AlreadyOpen
    ∷ refusal.NoRule ∷ refusal.RuleExists ∷ refusal.Cycle ∷ refusal.TooManyRules ∷ refusal.NoRuleset ∷ refusal.RulesetExists ∷ refusal.TooManyRulesets
    ∷ refusal.TableInUse ∷ refusal.TooManyTables ∷ refusal.TrailFull ∷ refusal.NoMemory ∷ []

abbrev pub of_lines : List WireRefusal
of_lines = wire.TooLong ∷ wire.BadLine ∷ wire.NoTenant ∷ wire.NoSession ∷ []

-- each refusal by its number and its name, in the order of the numbers
abbrev pub refusals : List (ℕ × List ℕ)
refusals = of_command refusal.Syntax ∷ map of_wire of_lines ++ map of_command of_commands ++ of_wire wire.NotBegun ∷ []

-- how often a refusal came, if it did
abbrev pub count_part : ℕ → ℕ × List ℕ → List ℕ
count_part count (number, name) =
    if count == 0 then [] else codes ", no " ++ decimal number ++ space ∷ name ++ codes ": " ++ decimal count

-- all of them
abbrev pub count_parts : List ℕ → List (ℕ × List ℕ) → List ℕ
count_parts counts rows = flat_map (λ row. count_part (slice_index counts row.0) row) rows

-- `lines 12, steps 10, no 10 Syntax: 1, no 12 BadLine: 1`
abbrev pub summary_line : Summary → List ℕ
summary_line s =
    codes "lines " ++ decimal s.lines ++ codes ", steps " ++ decimal s.steps ++ count_parts s.refused refusals ++ newline ∷ []

-- the line of a host that is finished
abbrev pub totals_line : ℕ → ℕ → List ℕ
totals_line trails steps = codes "trails " ++ decimal trails ++ codes " steps " ++ decimal steps ++ newline ∷ []
