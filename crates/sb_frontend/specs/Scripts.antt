-- Promise: what a client is told of a query's text that can't be read.
use Rattle.std.specs.Prelude.{ℕ, List, codes}
use Rattle.sb_postgres.specs.declared.query.error.Fault.{Fault}
use Rattle.sb_postgres.specs.declared.query.error.Fault.TheVariants as fault
use Rattle.sb_postgres.specs.declared.query.error.QueryError.{QueryError}
use Rattle.sb_postgres.specs.declared.query.error.QueryError.TheVariants as errors
use Rattle.sb_postgres.specs.declared.told.sqlstate.SqlState.{SqlState}
use Rattle.sb_postgres.specs.declared.told.sqlstate.SqlState.TheVariants as state
use Rattle.sb_postgres.specs.Answers.{Answered}
use Rattle.sb_frontend.specs.Outputs.{FailsBy}

abbrev pub fault_state : Fault → SqlState
fault_state fault.Unclosed = state.SyntaxError
fault_state fault.Unsupported = state.FeatureNotSupported
fault_state fault.Name = state.InvalidName
fault_state fault.Unprintable = state.CharacterNotInRepertoire
fault_state fault.TooLong = state.ProgramLimitExceeded

abbrev pub fault_text : Fault → List ℕ
fault_text fault.Unclosed = codes "unterminated quoted string or comment"
fault_text fault.Unsupported = codes "this form of constant or name is not supported"
fault_text fault.Name = codes "a quoted name has small letters, digits and _ alone"
fault_text fault.Unprintable = codes "a byte is outside printable ASCII"
fault_text fault.TooLong = codes "a statement is too long: its line has at most 4096 bytes"

abbrev pub TellsUnread : QueryError → List Answered → Type 0
TellsUnread errors.Memory ms = FailsBy state.OutOfMemory (codes "out of memory") ms
TellsUnread (errors.Refused r) ms = FailsBy (fault_state r.fault) (fault_text r.fault) ms
