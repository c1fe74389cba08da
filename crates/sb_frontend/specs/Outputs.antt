-- Promise: what is to be sent, and that messages are added to it.
use Rattle.std.specs.Prelude.{◌≡◌, ℕ, Bool, false, List, [], ◌∷◌, ◌++◌, flat_map, codes, Option, Some, None}
use Rattle.sb_postgres.specs.Answers.{Answered, CommandComplete, ErrorResponse, NoticeResponse, SeenField, sent}
use Rattle.sb_postgres.specs.declared.told.sqlstate.SqlState.{SqlState}
use Rattle.sb_postgres.specs.SqlStates.{code_of}

-- The bytes that wait; the tag that is held back until its transaction is committed; and whether memory has run out for a message.
pub record Outgoing : Type 0 where
  pub bytes : List ℕ
  pub held : Option (List ℕ)
  pub failed : Bool

abbrev pub nothing : Outgoing
nothing = record { bytes = []; held = None; failed = false }

-- the bytes of messages, one behind the other
unfoldable pub written : List Answered → List ℕ
written messages = flat_map sent messages

-- these bytes are behind the others, unless memory has run out
abbrev pub Adds : List ℕ → Outgoing → Outgoing → Type 0
Adds more old new = (new.held ≡ old.held) × (new.failed ≡ false → (old.failed ≡ false) × (new.bytes ≡ old.bytes ++ more))

-- so are these messages
abbrev pub Says : List Answered → Outgoing → Outgoing → Type 0
Says messages old new = Adds (written messages) old new

-- so are some messages, of which this holds
abbrev pub SaysSome : (List Answered → Type 0) → Outgoing → Outgoing → Type 0
SaysSome Is old new =
    (new.held ≡ old.held) × (new.failed ≡ false → (old.failed ≡ false) × (ms : List Answered) × Is ms × (new.bytes ≡ old.bytes ++ written ms))

-- these messages are behind the others, whatever is held back then
abbrev pub Extends : List Answered → Outgoing → Outgoing → Type 0
Extends messages old new = new.failed ≡ false → (old.failed ≡ false) × (new.bytes ≡ old.bytes ++ written messages)

-- so are these bytes
abbrev pub Sends : List ℕ → Outgoing → Outgoing → Type 0
Sends text old new = new.failed ≡ false → (old.failed ≡ false) × (new.bytes ≡ old.bytes ++ text)

-- this tag is held back, unless memory has run out
abbrev pub Holds : Option (List ℕ) → Outgoing → Type 0
Holds held out = out.failed ≡ false → out.held ≡ held

-- these messages are behind the others, and this tag is held back
abbrev pub Tells : List Answered → Option (List ℕ) → Outgoing → Outgoing → Type 0
Tells messages held old new =
    new.failed ≡ false → (old.failed ≡ false) × (new.bytes ≡ old.bytes ++ written messages) × (new.held ≡ held)

-- so are some messages
abbrev pub TellsSome : (List Answered → Type 0) → Option (List ℕ) → Outgoing → Outgoing → Type 0
TellsSome Is held old new =
    new.failed ≡ false → (old.failed ≡ false) × ((ms : List Answered) × Is ms × (new.bytes ≡ old.bytes ++ written ms)) × (new.held ≡ held)

-- the message of a tag
abbrev pub completed : Option (List ℕ) → List Answered
completed None = []
completed (Some tag) = CommandComplete tag ∷ []

abbrev pub field : ℕ → List ℕ → SeenField
field letter text = (letter, text)

-- what each error and each notice has: its severity, also as a word that no language changes, its state and its message
abbrev pub fields_of : List ℕ → SqlState → List ℕ → List SeenField
fields_of severity state message = field 83 severity ∷ field 86 severity ∷ field 67 (code_of state) ∷ field 77 message ∷ []

abbrev pub error_of : SqlState → List ℕ → Answered
error_of state message = ErrorResponse (fields_of (codes "ERROR") state message)

abbrev pub notice_of : List ℕ → SqlState → List ℕ → Answered
notice_of severity state message = NoticeResponse (fields_of severity state message)

-- an error with more fields behind those
abbrev pub IsError : SqlState → List ℕ → Answered → Type 0
IsError state message m = (more : List SeenField) × (m ≡ ErrorResponse (fields_of (codes "ERROR") state message ++ more))

-- the one error of a statement that went wrong
abbrev pub FailsBy : SqlState → List ℕ → List Answered → Type 0
FailsBy state message ms = (m : Answered) × IsError state message m × (ms ≡ m ∷ [])
