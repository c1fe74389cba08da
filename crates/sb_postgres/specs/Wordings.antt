-- Promise: the message of each refusal, with the name of what it is about.
use Rattle.std.specs.Prelude.{ℕ, List, ◌++◌, codes, Option, Some, None}
use Rattle.sb_value.specs.declared.refusal.Refusal.{Refusal}
use Rattle.sb_value.specs.declared.refusal.Refusal.TheVariants as refusal
use Rattle.sb_postgres.specs.declared.told.message.Words.{Words}

-- before the name, behind it, and without one
pub record Wording : Type 0 where
  pub before : List ℕ
  pub behind : List ℕ
  pub alone : List ℕ

abbrev pub seen : Words → Wording
seen w = record { before = w.before.now; behind = w.behind.now; alone = w.alone.now }

abbrev pub wording : List ℕ → List ℕ → List ℕ → Wording
wording before behind alone = record { before = before; behind = behind; alone = alone }

abbrev pub words_of : Refusal → Wording
words_of refusal.Syntax = wording (codes "syntax error at or near \"") (codes "\"") (codes "syntax error")
words_of refusal.NoTable = wording (codes "relation \"") (codes "\" does not exist") (codes "the relation does not exist")
words_of refusal.TableExists = wording (codes "relation \"") (codes "\" already exists") (codes "the relation already exists")
words_of refusal.NoColumn = wording (codes "column \"") (codes "\" does not exist") (codes "the column does not exist")
words_of refusal.BadType = wording (codes "values of \"") (codes "\" are of another type") (codes "the values are of another type")
words_of refusal.Ambiguous = wording (codes "name \"") (codes "\" is specified more than once") (codes "the name is specified more than once")
words_of refusal.WrongCount = wording (codes "INSERT into \"") (codes "\" has another number of expressions than target columns") (codes "INSERT has another number of expressions than target columns")
words_of refusal.BadTransition = wording (codes "transition table \"") (codes "\" does not exist here") (codes "the transition table does not exist here")
words_of refusal.Overflow = wording (codes "bigint out of range in \"") (codes "\"") (codes "bigint out of range")
words_of refusal.TooBig = wording (codes "statement on \"") (codes "\" would look at too many combinations of rows") (codes "the statement would look at too many combinations of rows")
words_of refusal.TooManyRows = wording (codes "statement on \"") (codes "\" has too many rows") (codes "the statement has too many rows")
words_of (refusal.Locked table) = wording (codes "could not obtain lock on relation \"") (codes "\"") (codes "could not obtain lock on the relation")
words_of refusal.InTransaction = wording (codes "\"") (codes "\" cannot run inside a transaction block") (codes "this cannot run inside a transaction block")
words_of refusal.NoTransaction = wording (codes "\"") (codes "\" can only be used in transaction blocks") (codes "there is no transaction in progress")
words_of refusal.Busy = wording (codes "\"") (codes "\" cannot run while another session has a transaction") (codes "another session has a transaction")
words_of refusal.NotOpen = wording (codes "session \"") (codes "\" is not open") (codes "the session is not open")
words_of refusal.AlreadyOpen = wording (codes "session \"") (codes "\" is in use") (codes "the session is in use")
words_of refusal.NoRule = wording (codes "rule \"") (codes "\" does not exist") (codes "the rule does not exist")
words_of refusal.RuleExists = wording (codes "rule \"") (codes "\" already exists") (codes "the rule already exists")
words_of refusal.Cycle = wording (codes "rule \"") (codes "\" would precede itself") (codes "a rule would precede itself")
words_of refusal.TooManyRules = wording (codes "no place for rule \"") (codes "\": there are too many") (codes "there are too many rules")
words_of refusal.NoRuleset = wording (codes "ruleset \"") (codes "\" does not exist") (codes "the ruleset does not exist")
words_of refusal.RulesetExists = wording (codes "ruleset \"") (codes "\" already exists") (codes "the ruleset already exists")
words_of refusal.TooManyRulesets = wording (codes "no place for ruleset \"") (codes "\": there are too many") (codes "there are too many rulesets")
words_of refusal.TableInUse = wording (codes "cannot drop table \"") (codes "\" because rules depend on it") (codes "cannot drop the table because rules depend on it")
words_of refusal.TooManyTables = wording (codes "no place for relation \"") (codes "\": there are too many") (codes "there are too many tables")
words_of refusal.TrailFull = wording (codes "the trail of database \"") (codes "\" is full") (codes "the trail of the database is full")
words_of refusal.NoMemory = wording (codes "out of memory at \"") (codes "\"; the transaction is rolled back") (codes "out of memory; the transaction is rolled back")

abbrev pub message_by : Wording → Option (List ℕ) → List ℕ
message_by w None = w.alone
message_by w (Some name) = w.before ++ name ++ w.behind

abbrev pub message_of : Refusal → Option (List ℕ) → List ℕ
message_of r about = message_by (words_of r) about
