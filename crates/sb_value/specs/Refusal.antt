-- Promise: the number and the name of a refusal.
use Rattle.std.specs.Prelude.{ℕ, List, codes}
use Rattle.sb_value.specs.declared.refusal.Refusal.{Refusal}
use Rattle.sb_value.specs.declared.refusal.Refusal.TheVariants as refusal

abbrev pub refusal_number : Refusal → ℕ
refusal_number refusal.Syntax = 10
refusal_number refusal.NoTable = 20
refusal_number refusal.TableExists = 21
refusal_number refusal.NoColumn = 22
refusal_number refusal.BadType = 23
refusal_number refusal.Ambiguous = 24
refusal_number refusal.WrongCount = 25
refusal_number refusal.BadTransition = 26
refusal_number refusal.Overflow = 30
refusal_number refusal.TooBig = 31
refusal_number refusal.TooManyRows = 32
refusal_number (refusal.Locked table) = 40
refusal_number refusal.InTransaction = 41
refusal_number refusal.NoTransaction = 42
refusal_number refusal.Busy = 43
refusal_number refusal.NotOpen = 44
refusal_number refusal.AlreadyOpen = 45
refusal_number refusal.NoRule = 50
refusal_number refusal.RuleExists = 51
refusal_number refusal.Cycle = 52
refusal_number refusal.TooManyRules = 53
refusal_number refusal.NoRuleset = 54
refusal_number refusal.RulesetExists = 55
refusal_number refusal.TooManyRulesets = 56
refusal_number refusal.TableInUse = 57
refusal_number refusal.TooManyTables = 58
refusal_number refusal.TrailFull = 90
refusal_number refusal.NoMemory = 91

abbrev pub refusal_name : Refusal → List ℕ
refusal_name refusal.Syntax = codes "Syntax"
refusal_name refusal.NoTable = codes "NoTable"
refusal_name refusal.TableExists = codes "TableExists"
refusal_name refusal.NoColumn = codes "NoColumn"
refusal_name refusal.BadType = codes "BadType"
refusal_name refusal.Ambiguous = codes "Ambiguous"
refusal_name refusal.WrongCount = codes "WrongCount"
refusal_name refusal.BadTransition = codes "BadTransition"
refusal_name refusal.Overflow = codes "Overflow"
refusal_name refusal.TooBig = codes "TooBig"
refusal_name refusal.TooManyRows = codes "TooManyRows"
refusal_name (refusal.Locked table) = codes "Locked"
refusal_name refusal.InTransaction = codes "InTransaction"
refusal_name refusal.NoTransaction = codes "NoTransaction"
refusal_name refusal.Busy = codes "Busy"
refusal_name refusal.NotOpen = codes "NotOpen"
refusal_name refusal.AlreadyOpen = codes "AlreadyOpen"
refusal_name refusal.NoRule = codes "NoRule"
refusal_name refusal.RuleExists = codes "RuleExists"
refusal_name refusal.Cycle = codes "Cycle"
refusal_name refusal.TooManyRules = codes "TooManyRules"
refusal_name refusal.NoRuleset = codes "NoRuleset"
refusal_name refusal.RulesetExists = codes "RulesetExists"
refusal_name refusal.TooManyRulesets = codes "TooManyRulesets"
refusal_name refusal.TableInUse = codes "TableInUse"
refusal_name refusal.TooManyTables = codes "TooManyTables"
refusal_name refusal.TrailFull = codes "TrailFull"
refusal_name refusal.NoMemory = codes "NoMemory"
