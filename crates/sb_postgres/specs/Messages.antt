-- Promise: the messages of a client, and the bytes that they are.
use Rattle.std.specs.Prelude.{ℕ, List, [], ◌++◌, map, Option, option_copied}
use Rattle.sb_postgres.specs.declared.client_message.ClientMessage.{ClientMessage}
use Rattle.sb_postgres.specs.declared.client_message.ClientMessage.TheVariants as code
use Rattle.sb_postgres.specs.declared.client_message.Target.{Target}
use Rattle.sb_postgres.specs.Fields.{text, half, word, value, counted, target, IsText, IsHalf, IsWord, IsValue, AreCounted}

-- a message without where it lies in memory
pub data Said : Type 0 where
  Query : (statements : List ℕ) → Said
  Parse : (name statement types : List ℕ) → Said
  Bind : (portal statement formats : List ℕ) (values : List (Option (List ℕ))) (results : List ℕ) → Said
  Describe : (t : Target) (name : List ℕ) → Said
  Execute : (portal : List ℕ) (rows : ℕ) → Said
  Close : (t : Target) (name : List ℕ) → Said
  Flush : Said
  Sync : Said
  Terminate : Said
  Password : (key : List ℕ) → Said

abbrev pub said : ClientMessage → Said
said (code.Query statements) = Query statements.now
said (code.Parse name statement types) = Parse name.now statement.now types.items
said (code.Bind portal statement formats values results) = Bind portal.now statement.now formats.items (map option_copied values.items) results.items
said (code.Describe t name) = Describe t name.now
said (code.Execute portal rows) = Execute portal.now rows
said (code.Close t name) = Close t name.now
said code.Flush = Flush
said code.Sync = Sync
said code.Terminate = Terminate
said (code.Password key) = Password key.now

-- its first byte
abbrev pub kind_of : Said → ℕ
kind_of (Query _) = 81
kind_of (Parse _ _ _) = 80
kind_of (Bind _ _ _ _ _) = 66
kind_of (Describe _ _) = 68
kind_of (Execute _ _) = 69
kind_of (Close _ _) = 67
kind_of Flush = 72
kind_of Sync = 83
kind_of Terminate = 88
kind_of (Password _) = 112

-- its bytes behind the length
abbrev pub body_of : Said → List ℕ
body_of (Query statements) = text statements
body_of (Parse name statement types) = text name ++ (text statement ++ counted word types)
body_of (Bind portal statement formats values results) =
    text portal ++ (text statement ++ (counted half formats ++ (counted value values ++ counted half results)))
body_of (Describe t name) = target t ++ text name
body_of (Execute portal rows) = text portal ++ word rows
body_of (Close t name) = target t ++ text name
body_of Flush = []
body_of Sync = []
body_of Terminate = []
body_of (Password key) = text key

-- what has such bytes
abbrev pub IsSaid : Said → Type 0
IsSaid (Query statements) = IsText statements
IsSaid (Parse name statement types) = IsText name × (IsText statement × AreCounted IsWord types)
IsSaid (Bind portal statement formats values results) =
    IsText portal × (IsText statement × (AreCounted IsHalf formats × (AreCounted IsValue values × AreCounted IsHalf results)))
IsSaid (Describe t name) = IsText name
IsSaid (Execute portal rows) = IsText portal × IsWord rows
IsSaid (Close t name) = IsText name
IsSaid Flush = Unit {0}
IsSaid Sync = Unit {0}
IsSaid Terminate = Unit {0}
IsSaid (Password key) = IsText key
