-- Promise: what the parts of a command ask for, and which of them isn't allowed.
use Rattle.std.specs.Prelude.{◌≡◌, ◌≢◌, ◌≤◌, ◌⊎◌, ⊤, ℕ, if◌then◌else◌, bytes_eq, List, [], ◌∷◌, Option, Some, None, option_map, is_some, unwrap_or, codes}
use Rattle.std.specs.Str.Parse.{IsNumeral, digits_value, without_leading_plus}
use Rattle.clap.specs.Words.{Row, Text, first_of}
use Rattle.sb_words.specs.Arguments.{name_of, parts, range_of}
use Rattle.sb_words.specs.JournalActions.{journal_action_of}
use Rattle.sb_words.specs.RenewPolicies.{renew_policy_of, usual_policy}
use Rattle.sb_words.specs.Requests.{Beginning, Request, fresh, folder, journal}
use Rattle.sb_words.specs.Requests as request
use Rattle.sb_words.specs.Severities.{severity_of}
use Rattle.sb_words.specs.Syncs.{syncs_of}
use Rattle.sb_words.specs.declared.argument.Argument.{Argument}
use Rattle.sb_words.specs.declared.argument.Argument.TheVariants as part
use Rattle.sb_words.specs.declared.argument.NumberRange.{NumberRange}
use Rattle.sb_words.specs.declared.argument.Unfit.{Unfit}
use Rattle.sb_words.specs.declared.argument.Verb.{Verb}
use Rattle.sb_words.specs.declared.argument.Verb.TheVariants as verb
use Rattle.sb_words.specs.declared.invocation.Dumping.{Dumping}
use Rattle.sb_words.specs.declared.invocation.HostOptions.{HostOptions}
use Rattle.sb_words.specs.declared.invocation.Run.{Run}
use Rattle.sb_words.specs.declared.invocation.ServerOptions.{ServerOptions}
use Rattle.sb_words.specs.declared.renew_policy.RenewPolicy.{RenewPolicy}
use Rattle.sb_words.specs.declared.severity.Severity.{Severity}
use Rattle.sb_words.specs.declared.severity.Severity.TheVariants.{Info}
use Rattle.sb_words.specs.declared.syncs.Syncs.{Syncs}
use Rattle.sb_words.specs.declared.syncs.Syncs.TheVariants.{Always}

-- an option without a value is `false` where it isn't given
abbrev pub given_flag : Option Text → Option Text
given_flag None = None
given_flag (Some text) = if bytes_eq text (codes "true") then Some text else None

abbrev pub text_by : Argument → Option Text → Option Text
text_by part.UntilInputEnds text = given_flag text
text_by p text = text

-- the text of a part, if it is given, in what clap finds
abbrev pub text_at : List Row → Argument → Option Text
text_at rows p = text_by p (first_of (name_of p) rows)

-- when a journal's records are brought to the disk: before they are answered where the option isn't given
abbrev pub syncs_in : Option Text → Syncs
syncs_in None = Always
syncs_in (Some word) = unwrap_or (syncs_of word) Always

-- ---- what is allowed

abbrev pub value_of : Text → ℕ
value_of text = digits_value 10 (without_leading_plus text)

-- a text in decimal digits, of a number from the least to the most
abbrev pub IsNumber : NumberRange → Text → Type 0
IsNumber range text = IsNumeral 10 (without_leading_plus text) × (range.least ≤ value_of text) × (value_of text ≤ range.most)

abbrev pub LacksNumber : Option NumberRange → Text → Type 0
LacksNumber None text = ⊥
LacksNumber (Some range) text = IsNumber range text → ⊥

-- there is no such word, or it doesn't go with what else is given: one tenant with all, files with a journal, a sync or a segment without one
abbrev pub LacksWord : List Row → Argument → Text → Type 0
LacksWord rows part.Log word = severity_of word ≡ None
LacksWord rows part.Action word = journal_action_of word ≡ None
LacksWord rows part.Renew word = renew_policy_of word ≡ None
LacksWord rows part.Into path = text_at rows part.Tenant ≢ None
LacksWord rows part.Journal file = text_at rows part.Load ≢ None
LacksWord rows part.Sync word = (syncs_of word ≡ None) ⊎ (text_at rows part.Journal ≡ None)
LacksWord rows part.Segment text = text_at rows part.Journal ≡ None
LacksWord rows p text = ⊥

-- the text isn't what the part has to be
abbrev pub IsWrong : List Row → Argument → Text → Type 0
IsWrong rows p text = LacksNumber (range_of p) text ⊎ LacksWord rows p text

-- it is given, and isn't allowed
abbrev pub IsUnfit : List Row → Argument → Text → Type 0
IsUnfit rows p text = (text_at rows p ≡ Some text) × IsWrong rows p text

abbrev pub Fits : List Row → Argument → Type 0
Fits rows p = (text : Text) → IsUnfit rows p text → ⊥

-- all parts that are given are allowed
abbrev pub AreAllowed : List Row → Type 0
AreAllowed rows = (p : Argument) → Fits rows p

-- of these parts it is the first that isn't allowed
abbrev pub IsFirstOf : List Row → Unfit → List Argument → Type 0
IsFirstOf rows u [] = ⊥
IsFirstOf rows u (p ∷ ps) = (IsUnfit rows p u.text.now × (u.part ≡ p)) ⊎ (Fits rows p × IsFirstOf rows u ps)

abbrev pub AllFit : List Row → List Argument → Type 0
AllFit rows [] = ⊤
AllFit rows (p ∷ ps) = Fits rows p × AllFit rows ps

abbrev pub IsFirstUnfit : List Row → Unfit → Type 0
IsFirstUnfit rows u = IsFirstOf rows u parts

-- ---- what is asked for

-- the number of an option, which is the usual one where the option isn't given
abbrev pub number_by : Option NumberRange → Option Text → ℕ
number_by None text = 0
number_by (Some range) None = range.usual
number_by (Some range) (Some text) = value_of text

abbrev pub number_in : List Row → Argument → ℕ
number_in rows p = number_by (range_of p) (text_at rows p)

-- all is logged where the option isn't given
abbrev pub severity_in : Option Text → Severity
severity_in None = Info
severity_in (Some word) = unwrap_or (severity_of word) Info

-- which tenants a server renews by itself
abbrev pub renew_by : Option Text → RenewPolicy → RenewPolicy
renew_by None usual = usual
renew_by (Some word) usual = unwrap_or (renew_policy_of word) usual

abbrev pub renew_in : List Row → RenewPolicy
renew_in rows = renew_by (text_at rows part.Renew) (usual_policy (is_some (text_at rows part.Journal)))

-- the budget of a step, if there is to be one
abbrev pub work_in : List Row → Option ℕ
work_in rows = option_map (λ text. number_in rows part.StepWork) (text_at rows part.StepWork)

abbrev pub run_in : List Row → Run
run_in rows = record { tenants = number_in rows part.Tenants; bound = number_in rows part.Bound; work = work_in rows }

abbrev pub dumping_in : List Row → Dumping
dumping_in rows = record { run = run_in rows; tenant = number_in rows part.Tenant }

abbrev pub hosting_in : List Row → HostOptions
hosting_in rows = record { run = run_in rows; cells = number_in rows part.Cells; workers = number_in rows part.Workers }

-- the port of the status pages, if there are to be some
abbrev pub status_in : List Row → Option ℕ
status_in rows = option_map (λ text. number_in rows part.Status) (text_at rows part.Status)

abbrev pub serving_in : List Row → ServerOptions
serving_in rows = record {
  hosting = hosting_in rows;
  port = number_in rows part.Port;
  connections = number_in rows part.Connections;
  idle = number_in rows part.Idle;
  idle_transaction = number_in rows part.IdleTransaction;
  first_tenant = number_in rows part.FirstTenant;
  tenant_memory = number_in rows part.TenantMemory;
  segment = number_in rows part.Segment;
  log = severity_in (text_at rows part.Log);
  until_input_ends = is_some (text_at rows part.UntilInputEnds);
  status = status_in rows;
  slow = number_in rows part.Slow;
  renew = renew_in rows;
}

-- the tenants that a run or a server begins with
abbrev pub begins_by : Option Text → Option Text → Syncs → Beginning
begins_by (Some path) file syncs = folder path
begins_by None (Some file) syncs = journal file syncs
begins_by None None syncs = fresh

abbrev pub begins_in : List Row → Beginning
begins_in rows = begins_by (text_at rows part.Load) (text_at rows part.Journal) (syncs_in (text_at rows part.Sync))

-- the path that stands there
abbrev pub path_in : List Row → Argument → Text
path_in rows p = unwrap_or (text_at rows p) []

-- what a command asks for
abbrev pub asked_by : Verb → List Row → Request
asked_by verb.Run rows = request.run (run_in rows) (begins_in rows)
asked_by verb.Serve rows = request.serve (serving_in rows) (begins_in rows) (text_at rows part.DumpTo) (text_at rows part.Keys)
asked_by verb.Replay rows = request.replay (hosting_in rows)
asked_by verb.Parse rows = request.parse
asked_by verb.Dump rows = request.dump (dumping_in rows) (text_at rows part.Into)
asked_by verb.Compact rows = request.compact (run_in rows) (path_in rows part.Old) (path_in rows part.New)
asked_by verb.Journal rows = request.check (path_in rows part.Folder)
asked_by verb.Key rows = request.key

-- all parts are allowed, and it is what the command asks for
abbrev pub AsksBy : Verb → List Row → Request → Type 0
AsksBy v rows r = AreAllowed rows × (r ≡ asked_by v rows)

-- ---- options in front of a command

-- of these parts none is given
abbrev pub NoneGiven : List Row → List Argument → Type 0
NoneGiven rows [] = ⊤
NoneGiven rows (p ∷ ps) = (text_at rows p ≡ None) × NoneGiven rows ps

-- of these parts it is the first that is given
abbrev pub IsFirstGiven : List Row → Unfit → List Argument → Type 0
IsFirstGiven rows u [] = ⊥
IsFirstGiven rows u (p ∷ ps) = ((text_at rows p ≡ Some u.text.now) × (u.part ≡ p)) ⊎ ((text_at rows p ≡ None) × IsFirstGiven rows u ps)
