-- Promise: what the words of a command line ask for.
use Rattle.std.specs.Prelude.{◌≡◌, ◌≢◌, ◌⊎◌, ◌≤◌, ⊤, List, [], ◌∷◌, length, codes, true, Option, Some, None, option_map}
use Rattle.clap.specs.Words.{App, IsAmong, Row, Rule, Shape, Text, fault_of, matches_of, new_app, new_rule, subcommand_of, with_rule, with_subcommand}
use Rattle.clap.specs.declared.builder.action.ArgAction.TheVariants.{SetTrue}
use Rattle.clap.specs.declared.error.kind.ErrorKind.{ErrorKind}
use Rattle.clap.specs.declared.error.kind.ErrorKind.TheVariants.{DisplayHelp, DisplayVersion}
use Rattle.sb_words.specs.Asking.{AsksBy, IsFirstGiven, IsFirstUnfit, NoneGiven}
use Rattle.sb_words.specs.Arguments.{name_of, parts_of, verb_of, verbs, word_of}
use Rattle.sb_words.specs.declared.argument.Argument.{Argument}
use Rattle.sb_words.specs.declared.argument.Argument.TheVariants.{Old, New, Action, Folder, UntilInputEnds}
use Rattle.sb_words.specs.declared.argument.Unfit.{Unfit}
use Rattle.sb_words.specs.declared.argument.Verb.{Verb}
use Rattle.sb_words.specs.declared.argument.Verb.TheVariants.{Run}
use Rattle.sb_words.specs.Requests.{Request, fresh, request_of, run}
use Rattle.sb_words.specs.declared.words.Asked.{Asked}
use Rattle.sb_words.specs.declared.words.Asked.TheVariants.{For, Help, Version, Refused, NotAllowed, Misplaced}

-- what has a value has one name for it
abbrev pub valued : Text → Rule
valued name = record (new_rule name) { value_names = 1 }

-- an option `--name` with a value, one without, and what `compact` and `journal` need behind them
abbrev pub rule_of : Argument → Rule
rule_of Old = record (valued (codes "old")) { required = true }
rule_of New = record (valued (codes "new")) { required = true }
rule_of Action = record (valued (codes "action")) { required = true }
rule_of Folder = record (valued (codes "folder")) { required = true }
rule_of UntilInputEnds = record (new_rule (codes "until-input-ends")) { long = Some (codes "until-input-ends"); action = Some SetTrue }
rule_of p = record (valued (name_of p)) { long = Some (name_of p) }

-- these parts are added
abbrev pub with_parts : App → List Argument → App
with_parts a [] = a
with_parts a (p ∷ ps) = with_parts (with_rule a (rule_of p)) ps

-- a command with its parts
abbrev pub command_of : Verb → Shape
command_of v = (with_parts (new_app (word_of v)) (parts_of v)).top

-- these commands are added
abbrev pub with_commands : App → List Verb → App
with_commands a [] = a
with_commands a (v ∷ vs) = with_commands (with_subcommand a (command_of v)) vs

-- the program has a version, and no command `help`
abbrev pub with_version : App → App
with_version a = record a { top = record a.top { has_version = true; disable_help_subcommand = true } }

-- the program's words, as clap reads them: all commands, and the parts of a run, which needn't be named
abbrev pub starhost : App
starhost = with_commands (with_parts (with_version (new_app (codes "starhost"))) (parts_of Run)) verbs

-- what clap finds: in front of a command, and a command that is named with what is found behind it
abbrev pub Findings : Type 0
Findings = List Row × Option (Text × List Row)

abbrev pub findings_of : List Text → Findings
findings_of words = (matches_of starhost words, subcommand_of starhost words)

-- the command that is named, with what is found behind it, or a run with all
abbrev pub command_in : Findings → Option (Verb × List Row)
command_in (rows, None) = Some (Run, rows)
command_in (rows, Some named) = option_map (λ v. (v, named.1)) (verb_of named.0)

-- in front of a command that is named stands no option
abbrev pub NoneInFront : Findings → Type 0
NoneInFront (rows, None) = ⊤
NoneInFront (rows, Some named) = NoneGiven rows (parts_of Run)

-- this command is asked for, with this behind it
abbrev pub IsCommand : Findings → Verb → List Row → Type 0
IsCommand f v rows = NoneInFront f × (command_in f ≡ Some (v, rows))

abbrev pub AsksFor : Findings → Request → Type 0
AsksFor f r = (v : Verb) × (rows : List Row) × IsCommand f v rows × AsksBy v rows r

-- the first part of the command that isn't allowed
abbrev pub HasUnfit : Findings → Unfit → Type 0
HasUnfit f u = (v : Verb) × (rows : List Row) × IsCommand f v rows × IsFirstUnfit rows u

-- the first option in front of a command
abbrev pub HasMisplaced : Findings → Unfit → Type 0
HasMisplaced (rows, None) u = ⊥
HasMisplaced (rows, Some named) u = IsFirstGiven rows u (parts_of Run)

-- These words, the program's name first, ask for a command: clap finds no fault in them, and what it finds does.
abbrev pub AskFor : List Text → Request → Type 0
AskFor words r = (fault_of starhost words ≡ []) × AsksFor (findings_of words) r

abbrev pub AskForHelp : List Text → Type 0
AskForHelp words = IsAmong DisplayHelp (fault_of starhost words)

abbrev pub AskForVersion : List Text → Type 0
AskForVersion words = IsAmong DisplayVersion (fault_of starhost words)

-- clap finds a fault in them that is no question
abbrev pub HasFault : List Text → Type 0
HasFault words = (kind : ErrorKind) × IsAmong kind (fault_of starhost words) × (kind ≢ DisplayHelp) × (kind ≢ DisplayVersion)

-- clap finds no fault in them, and this is the first part of the command that isn't allowed
abbrev pub HaveUnfit : List Text → Unfit → Type 0
HaveUnfit words u = (fault_of starhost words ≡ []) × HasUnfit (findings_of words) u

-- clap finds no fault in them, and this is the first option that stands in front of a command
abbrev pub HaveMisplaced : List Text → Unfit → Type 0
HaveMisplaced words u = (fault_of starhost words ≡ []) × HasMisplaced (findings_of words) u

-- what is found behind a command asks for it
abbrev pub IsAskedOf : Verb → List Row → Asked → Type 0
IsAskedOf v rows (For i) = AsksBy v rows (request_of i)
IsAskedOf v rows (NotAllowed u) = IsFirstUnfit rows u
IsAskedOf v rows other = ⊥

-- what is found, where there is no fault, asks for it
abbrev pub IsAskedBy : Findings → Asked → Type 0
IsAskedBy f (For i) = AsksFor f (request_of i)
IsAskedBy f (NotAllowed u) = HasUnfit f u
IsAskedBy f (Misplaced u) = HasMisplaced f u
IsAskedBy f other = ⊥

-- it is what the words ask for
abbrev pub IsAsked : List Text → Asked → Type 0
IsAsked words (For i) = AskFor words (request_of i)
IsAsked words (Help e) = AskForHelp words
IsAsked words Version = AskForVersion words
IsAsked words (Refused e) = HasFault words
IsAsked words (NotAllowed u) = HaveUnfit words u
IsAsked words (Misplaced u) = HaveMisplaced words u

-- words ask for one command at most
abbrev pub AskOnce : Type 0
AskOnce = (words : List Text) (a b : Request) → AskFor words a → AskFor words b → a ≡ b

-- words without a fault are no question, and with one no command
abbrev pub AskForOneThing : Type 0
AskForOneThing = (words : List Text) (a : Request) → AskFor words a → (kind : ErrorKind) → IsAmong kind (fault_of starhost words) → ⊥

-- words of which a part isn't allowed, or stands in front of a command, ask for nothing
abbrev pub UnfitAskForNothing : Type 0
UnfitAskForNothing = (words : List Text) (u : Unfit) → HaveUnfit words u ⊎ HaveMisplaced words u → (a : Request) → AskFor words a → ⊥

-- no word behind the name asks for a run of 16 tenants, with 1,000 considerations and no budget
abbrev pub NoWordAsksForRun : Type 0
NoWordAsksForRun = (words : List Text) → length words ≤ 1 → AskFor words (run (record { tenants = 16; bound = 1000; work = None }) fresh)
