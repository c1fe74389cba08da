-- Promise: the line of words that aren't allowed.
use Rattle.std.specs.Prelude.{ℕ, List, ◌++◌, codes}
use Rattle.clap.specs.Words.{Text}
use Rattle.sb_words.specs.Arguments.{name_of}
use Rattle.sb_words.specs.declared.argument.Argument.{Argument}
use Rattle.sb_words.specs.declared.argument.Argument.TheVariants.{Old, New, Action, Folder, Tenant, Into, Journal, Sync, Status, Tenants, Bound, StepWork, Cells, Workers, Port, Connections, Idle, IdleTransaction, FirstTenant, TenantMemory, Segment, Log, Slow, Renew, UntilInputEnds}
use Rattle.sb_words.specs.declared.argument.Unfit.{Unfit}

-- a part, with the text that stands for it
abbrev pub part_text : Argument → Text → List ℕ
part_text Old text = codes "the word " ++ text
part_text New text = codes "the word " ++ text
part_text Action text = codes "the word " ++ text
part_text Folder text = codes "the word " ++ text
part_text UntilInputEnds text = codes "--until-input-ends"
part_text p text = codes "--" ++ name_of p ++ codes " " ++ text

-- what is allowed in a part's place
abbrev pub allowed_for : Argument → Text
allowed_for Tenants = codes "1 to 256"
allowed_for Bound = codes "1 to 1000"
allowed_for StepWork = codes "1 to 4294967295"
allowed_for Action = codes "check"
allowed_for Tenant = codes "0 to 255"
allowed_for Into = codes "a folder, without --tenant"
allowed_for Cells = codes "1 to 16"
allowed_for Workers = codes "1 to 16"
allowed_for Port = codes "0 to 65535"
allowed_for Connections = codes "0 to 1000000"
allowed_for Idle = codes "0 to 86400"
allowed_for IdleTransaction = codes "0 to 86400"
allowed_for FirstTenant = codes "0 to 999999000"
allowed_for TenantMemory = codes "0 to 1048576"
allowed_for Segment = codes "1 to 65536, with --journal"
allowed_for Journal = codes "a path, without --load"
allowed_for Sync = codes "always, second or never, with --journal"
allowed_for Renew = codes "auto or never"
allowed_for Status = codes "0 to 65535"
allowed_for Log = codes "error, warning or info"
allowed_for Slow = codes "0 to 86400000"
allowed_for other = codes "a path"

-- a part that isn't allowed, and what is
abbrev pub refusal_text : Unfit → List ℕ
refusal_text u = codes "error: " ++ part_text u.part u.text.now ++ codes " isn't allowed; allowed is " ++ allowed_for u.part ++ codes "\n"

-- a part that stands in front of a command
abbrev pub misplaced_text : Unfit → List ℕ
misplaced_text u = codes "error: " ++ part_text u.part u.text.now ++ codes " has to stand behind the command\n"
