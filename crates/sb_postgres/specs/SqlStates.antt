-- Promise: the SQLSTATE of each refusal.
use Rattle.std.specs.Prelude.{ℕ, Bool, if◌then◌else◌, List, codes}
use Rattle.sb_value.specs.declared.refusal.Refusal.{Refusal}
use Rattle.sb_value.specs.declared.refusal.Refusal.TheVariants as refusal
use Rattle.sb_postgres.specs.declared.told.sqlstate.SqlState.{SqlState}
use Rattle.sb_postgres.specs.declared.told.sqlstate.SqlState.TheVariants as state

-- its five letters
abbrev pub code_of : SqlState → List ℕ
code_of state.SuccessfulCompletion = codes "00000"
code_of state.ProtocolViolation = codes "08P01"
code_of state.ConnectionDoesNotExist = codes "08003"
code_of state.FeatureNotSupported = codes "0A000"
code_of state.StringDataRightTruncation = codes "22001"
code_of state.CharacterNotInRepertoire = codes "22021"
code_of state.NumericValueOutOfRange = codes "22003"
code_of state.NullValueNotAllowed = codes "22004"
code_of state.InvalidTextRepresentation = codes "22P02"
code_of state.InvalidBinaryRepresentation = codes "22P03"
code_of state.ActiveSqlTransaction = codes "25001"
code_of state.NoActiveSqlTransaction = codes "25P01"
code_of state.InvalidSqlStatementName = codes "26000"
code_of state.InvalidPassword = codes "28P01"
code_of state.DependentObjectsStillExist = codes "2BP01"
code_of state.InvalidCursorName = codes "34000"
code_of state.InvalidCatalogName = codes "3D000"
code_of state.SyntaxError = codes "42601"
code_of state.InvalidName = codes "42602"
code_of state.DuplicateColumn = codes "42701"
code_of state.AmbiguousColumn = codes "42702"
code_of state.UndefinedColumn = codes "42703"
code_of state.UndefinedObject = codes "42704"
code_of state.DuplicateObject = codes "42710"
code_of state.DatatypeMismatch = codes "42804"
code_of state.UndefinedTable = codes "42P01"
code_of state.UndefinedParameter = codes "42P02"
code_of state.DuplicateCursor = codes "42P03"
code_of state.DuplicatePreparedStatement = codes "42P05"
code_of state.DuplicateTable = codes "42P07"
code_of state.InvalidObjectDefinition = codes "42P17"
code_of state.OutOfMemory = codes "53200"
code_of state.TooManyConnections = codes "53300"
code_of state.ConfigurationLimitExceeded = codes "53400"
code_of state.ProgramLimitExceeded = codes "54000"
code_of state.StatementTooComplex = codes "54001"
code_of state.ObjectNotInPrerequisiteState = codes "55000"
code_of state.ObjectInUse = codes "55006"
code_of state.LockNotAvailable = codes "55P03"
code_of state.AdminShutdown = codes "57P01"
code_of state.RaiseException = codes "P0001"

-- a statement that defines names columns, and any other one looks them up
abbrev pub state_of : Bool → Refusal → SqlState
state_of defines refusal.Syntax = state.SyntaxError
state_of defines refusal.NoTable = state.UndefinedTable
state_of defines refusal.TableExists = state.DuplicateTable
state_of defines refusal.NoColumn = state.UndefinedColumn
state_of defines refusal.BadType = state.DatatypeMismatch
state_of defines refusal.Ambiguous = if defines then state.DuplicateColumn else state.AmbiguousColumn
state_of defines refusal.WrongCount = state.SyntaxError
state_of defines refusal.BadTransition = state.UndefinedTable
state_of defines refusal.Overflow = state.NumericValueOutOfRange
state_of defines refusal.TooBig = state.ProgramLimitExceeded
state_of defines refusal.TooManyRows = state.ProgramLimitExceeded
state_of defines (refusal.Locked table) = state.LockNotAvailable
state_of defines refusal.InTransaction = state.ActiveSqlTransaction
state_of defines refusal.NoTransaction = state.NoActiveSqlTransaction
state_of defines refusal.Busy = state.ObjectInUse
state_of defines refusal.NotOpen = state.ConnectionDoesNotExist
state_of defines refusal.AlreadyOpen = state.TooManyConnections
state_of defines refusal.NoRule = state.UndefinedObject
state_of defines refusal.RuleExists = state.DuplicateObject
state_of defines refusal.Cycle = state.InvalidObjectDefinition
state_of defines refusal.TooManyRules = state.ProgramLimitExceeded
state_of defines refusal.NoRuleset = state.UndefinedObject
state_of defines refusal.RulesetExists = state.DuplicateObject
state_of defines refusal.TooManyRulesets = state.ProgramLimitExceeded
state_of defines refusal.TableInUse = state.DependentObjectsStillExist
state_of defines refusal.TooManyTables = state.ProgramLimitExceeded
state_of defines refusal.TrailFull = state.ConfigurationLimitExceeded
state_of defines refusal.NoMemory = state.OutOfMemory
