-- Promise: why a message of the extended query fails, and what a client is told of it.
use Rattle.std.specs.Prelude.{◌≡◌, ◌⊎◌, ℕ, List, codes, Result, Err}
use Rattle.sb_postgres.specs.declared.query.error.QueryError.{QueryError}
use Rattle.sb_postgres.specs.declared.query.error.QueryError.TheVariants as query
use Rattle.sb_postgres.specs.declared.query.template.FillError.{FillError}
use Rattle.sb_postgres.specs.declared.query.template.FillError.TheVariants as fill
use Rattle.sb_postgres.specs.declared.told.sqlstate.SqlState.{SqlState}
use Rattle.sb_postgres.specs.declared.told.sqlstate.SqlState.TheVariants as state
use Rattle.sb_frontend.specs.declared.denial.Denial.{Denial}
use Rattle.sb_frontend.specs.declared.denial.Denial.TheVariants as d
use Rattle.sb_frontend.specs.Scripts.{fault_state, fault_text}

abbrev pub state_of : Denial → SqlState
state_of d.Memory = state.OutOfMemory
state_of (d.Unread r) = fault_state r.fault
state_of d.Several = state.SyntaxError
state_of d.TooLong = state.ProgramLimitExceeded
state_of d.NoParameter = state.UndefinedParameter
state_of d.StatementExists = state.DuplicatePreparedStatement
state_of d.NoStatement = state.InvalidSqlStatementName
state_of d.PortalExists = state.DuplicateCursor
state_of d.NoPortal = state.InvalidCursorName
state_of d.TooMany = state.ProgramLimitExceeded
state_of d.WrongValues = state.ProtocolViolation
state_of d.WrongFormats = state.ProtocolViolation
state_of d.UnknownFormat = state.FeatureNotSupported
state_of d.UnknownType = state.FeatureNotSupported
state_of d.Null = state.NullValueNotAllowed
state_of d.NotOfType = state.InvalidTextRepresentation
state_of d.WrongBytes = state.InvalidBinaryRepresentation
state_of d.OutOfRange = state.NumericValueOutOfRange
state_of d.LongText = state.StringDataRightTruncation
state_of d.Unprintable = state.CharacterNotInRepertoire
state_of d.Played = state.ObjectNotInPrerequisiteState
state_of d.Limited = state.FeatureNotSupported

abbrev pub text_of : Denial → List ℕ
text_of d.Memory = codes "out of memory"
text_of (d.Unread r) = fault_text r.fault
text_of d.Several = codes "cannot insert multiple commands into a prepared statement"
text_of d.TooLong = codes "a statement is too long with its values: its line has at most 4096 bytes"
text_of d.NoParameter = codes "there is no such parameter"
text_of d.StatementExists = codes "a prepared statement of this name already exists"
text_of d.NoStatement = codes "the prepared statement does not exist"
text_of d.PortalExists = codes "a portal of this name already exists"
text_of d.NoPortal = codes "the portal does not exist"
text_of d.TooMany = codes "there are too many prepared statements or portals"
text_of d.WrongValues = codes "the bind message has another number of parameters than the prepared statement"
text_of d.WrongFormats = codes "the bind message has another number of parameter formats than parameters"
text_of d.UnknownFormat = codes "this format is not supported"
text_of d.UnknownType = codes "parameters of this type are not supported"
text_of d.Null = codes "there is no null value"
text_of d.NotOfType = codes "invalid input syntax for the type of the parameter"
text_of d.WrongBytes = codes "incorrect binary data format for the type of the parameter"
text_of d.OutOfRange = codes "the value of the parameter is out of range"
text_of d.LongText = codes "the value of the parameter is too long: a text has at most 255 bytes"
text_of d.Unprintable = codes "a byte of the parameter is outside printable ASCII"
text_of d.Played = codes "the portal cannot be run again"
text_of d.Limited = codes "a limit on the rows of a portal is not supported"

-- what is wanted comes out, unless memory runs out
abbrev pub Comes : {X : Type 0} → Result X Denial → Result X Denial → Type 0
Comes wanted got = (got ≡ wanted) ⊎ (got ≡ Err d.Memory)

abbrev pub of_query : QueryError → Denial
of_query query.Memory = d.Memory
of_query (query.Refused r) = d.Unread r

abbrev pub of_fill : FillError → Denial
of_fill fill.Memory = d.Memory
of_fill (fill.Refused r) = d.Unread r
of_fill (fill.NoValue at) = d.NoParameter
of_fill fill.TooLong = d.TooLong
