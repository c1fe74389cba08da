-- Promise: the messages of a server, and the bytes that they are.
use Rattle.std.specs.Prelude.{ℕ, ◌-◌, ◌<◌, ◌≤◌, ◌^◌, List, [], ◌∷◌, ◌++◌, length, map, Option, option_copied}
use Rattle.std.specs.List.{flat_map, AllByRecursion}
use Rattle.sb_postgres.specs.declared.server_message.Column.{Column}
use Rattle.sb_postgres.specs.declared.server_message.Field.{Field}
use Rattle.sb_postgres.specs.declared.server_message.ServerMessage.{ServerMessage}
use Rattle.sb_postgres.specs.declared.server_message.ServerMessage.TheVariants as code
use Rattle.sb_postgres.specs.declared.server_message.TransactionStatus.{TransactionStatus}
use Rattle.sb_postgres.specs.declared.server_message.TransactionStatus.TheVariants.{Idle, Open}
use Rattle.sb_postgres.specs.Frames.{frame, body_limit}
use Rattle.sb_postgres.specs.Fields.{text, half, word, value, counted, IsText, IsHalf, IsWord, IsValue, AreCounted}

-- a column and a field without where they lie in memory: its name, type, length and format; its letter and its text
abbrev pub SeenColumn : Type 0
SeenColumn = List ℕ × (ℕ × (ℕ × ℕ))

abbrev pub SeenField : Type 0
SeenField = ℕ × List ℕ

abbrev pub column_seen : Column → SeenColumn
column_seen c = (c.name.now, (c.type_id, (c.type_len, c.format)))

abbrev pub field_seen : Field → SeenField
field_seen f = (f.letter, f.text.now)

-- a message without where it lies in memory
pub data Answered : Type 0 where
  AuthenticationOk : Answered
  AuthenticationCleartextPassword : Answered
  ParameterStatus : (name value : List ℕ) → Answered
  BackendKeyData : (process key : ℕ) → Answered
  NegotiateProtocolVersion : (minor : ℕ) (options : List (List ℕ)) → Answered
  ReadyForQuery : (status : TransactionStatus) → Answered
  RowDescription : (columns : List SeenColumn) → Answered
  DataRow : (values : List (Option (List ℕ))) → Answered
  CommandComplete : (tag : List ℕ) → Answered
  EmptyQueryResponse : Answered
  ErrorResponse : (fields : List SeenField) → Answered
  NoticeResponse : (fields : List SeenField) → Answered
  ParseComplete : Answered
  BindComplete : Answered
  CloseComplete : Answered
  NoData : Answered
  PortalSuspended : Answered
  ParameterDescription : (types : List ℕ) → Answered

abbrev pub answered : ServerMessage → Answered
answered code.AuthenticationOk = AuthenticationOk
answered code.AuthenticationCleartextPassword = AuthenticationCleartextPassword
answered (code.ParameterStatus name value) = ParameterStatus name.now value.now
answered (code.BackendKeyData process key) = BackendKeyData process key
answered (code.NegotiateProtocolVersion minor options) = NegotiateProtocolVersion minor (map (λ o. o.now) options.now)
answered (code.ReadyForQuery status) = ReadyForQuery status
answered (code.RowDescription columns) = RowDescription (map column_seen columns.now)
answered (code.DataRow values) = DataRow (map option_copied values.now)
answered (code.CommandComplete tag) = CommandComplete tag.now
answered code.EmptyQueryResponse = EmptyQueryResponse
answered (code.ErrorResponse fields) = ErrorResponse (map field_seen fields.now)
answered (code.NoticeResponse fields) = NoticeResponse (map field_seen fields.now)
answered code.ParseComplete = ParseComplete
answered code.BindComplete = BindComplete
answered code.CloseComplete = CloseComplete
answered code.NoData = NoData
answered code.PortalSuspended = PortalSuspended
answered (code.ParameterDescription types) = ParameterDescription types.now

-- the number -1 in four bytes
abbrev pub minus_one : ℕ
minus_one = 2 ^ 32 - 1

-- a column belongs to no table, and its type has no modifier
abbrev pub column : SeenColumn → List ℕ
column (name, (type_id, (type_len, format))) =
    text name ++ (word 0 ++ (half 0 ++ (word type_id ++ (half type_len ++ (word minus_one ++ half format)))))

abbrev pub IsColumn : SeenColumn → Type 0
IsColumn (name, (type_id, (type_len, format))) = IsText name × (IsWord type_id × (IsHalf type_len × IsHalf format))

abbrev pub field : SeenField → List ℕ
field (letter, bytes) = letter ∷ text bytes

-- a letter is no zero byte, which ends the list
abbrev pub IsField : SeenField → Type 0
IsField (letter, bytes) = (0 < letter) × ((letter < 2 ^ 8) × IsText bytes)

abbrev pub fields_body : List SeenField → List ℕ
fields_body fields = flat_map field fields ++ 0 ∷ []

abbrev pub status_letter : TransactionStatus → ℕ
status_letter Idle = 73
status_letter Open = 84

-- its first byte
abbrev pub kind_of : Answered → ℕ
kind_of AuthenticationOk = 82
kind_of AuthenticationCleartextPassword = 82
kind_of (ParameterStatus _ _) = 83
kind_of (BackendKeyData _ _) = 75
kind_of (NegotiateProtocolVersion _ _) = 118
kind_of (ReadyForQuery _) = 90
kind_of (RowDescription _) = 84
kind_of (DataRow _) = 68
kind_of (CommandComplete _) = 67
kind_of EmptyQueryResponse = 73
kind_of (ErrorResponse _) = 69
kind_of (NoticeResponse _) = 78
kind_of ParseComplete = 49
kind_of BindComplete = 50
kind_of CloseComplete = 51
kind_of NoData = 110
kind_of PortalSuspended = 115
kind_of (ParameterDescription _) = 116

-- its bytes behind the length
abbrev pub body_of : Answered → List ℕ
body_of AuthenticationOk = word 0
body_of AuthenticationCleartextPassword = word 3
body_of (ParameterStatus name value) = text name ++ text value
body_of (BackendKeyData process key) = word process ++ word key
body_of (NegotiateProtocolVersion minor options) = word minor ++ (word (length options) ++ flat_map text options)
body_of (ReadyForQuery status) = status_letter status ∷ []
body_of (RowDescription columns) = counted column columns
body_of (DataRow values) = counted value values
body_of (CommandComplete tag) = text tag
body_of EmptyQueryResponse = []
body_of (ErrorResponse fields) = fields_body fields
body_of (NoticeResponse fields) = fields_body fields
body_of ParseComplete = []
body_of BindComplete = []
body_of CloseComplete = []
body_of NoData = []
body_of PortalSuspended = []
body_of (ParameterDescription types) = counted word types

-- what has such bytes
abbrev pub IsAnswered : Answered → Type 0
IsAnswered AuthenticationOk = Unit {0}
IsAnswered AuthenticationCleartextPassword = Unit {0}
IsAnswered (ParameterStatus name value) = IsText name × IsText value
IsAnswered (BackendKeyData process key) = IsWord process × IsWord key
IsAnswered (NegotiateProtocolVersion minor options) = IsWord minor × (IsWord (length options) × AllByRecursion IsText options)
IsAnswered (ReadyForQuery _) = Unit {0}
IsAnswered (RowDescription columns) = AreCounted IsColumn columns
IsAnswered (DataRow values) = AreCounted IsValue values
IsAnswered (CommandComplete tag) = IsText tag
IsAnswered EmptyQueryResponse = Unit {0}
IsAnswered (ErrorResponse fields) = AllByRecursion IsField fields
IsAnswered (NoticeResponse fields) = AllByRecursion IsField fields
IsAnswered ParseComplete = Unit {0}
IsAnswered BindComplete = Unit {0}
IsAnswered CloseComplete = Unit {0}
IsAnswered NoData = Unit {0}
IsAnswered PortalSuspended = Unit {0}
IsAnswered (ParameterDescription types) = AreCounted IsWord types

-- a message that can be sent
abbrev pub CanBeSent : Answered → Type 0
CanBeSent m = IsAnswered m × (length (body_of m) ≤ body_limit)

abbrev pub sent : Answered → List ℕ
sent m = frame (kind_of m) (body_of m)
