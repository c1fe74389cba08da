-- Promise: which lines of an input are commands.
use Rattle.std.specs.Prelude.{◌≡◌, ◌≤◌, ◌+◌, ℕ, Bool, true, false, List, [], ◌∷◌, ◌++◌, codes, decimal, length, nat_lt, Option, Some, None, Result}
use Rattle.sb_syntax.specs.Text.{command_of, text_limit}
use Rattle.sb_syntax.specs.Tree.{Command}
use Rattle.sb_wire.specs.Lines.{Piece, line, too_long, pieces_of}
use Rattle.sb_wire.specs.Responses.{AnswersStream, StopsBy}
use Rattle.sb_wire.specs.declared.fault.StreamError.{StreamError}

abbrev pub long_text : List ℕ
long_text = codes "too long\n"

-- a place in a text, counted from 1; behind its end is one too
abbrev pub TellsPlace : List ℕ → List ℕ → Type 0
TellsPlace bytes text =
    (place : ℕ) × (1 ≤ place) × (place ≤ length bytes + 1) × (text ≡ codes "syntax " ++ decimal place ++ codes "\n")

-- that a text is a command, or the place where it can't be one
abbrev pub TellsIfAny : Option Command → List ℕ → List ℕ → Type 0
TellsIfAny (Some command) bytes text = text ≡ codes "ok\n"
TellsIfAny None bytes text = TellsPlace bytes text

-- or that it is too long for one
abbrev pub TellsBy : Bool → List ℕ → List ℕ → Type 0
TellsBy true bytes text = text ≡ long_text
TellsBy false bytes text = TellsIfAny (command_of bytes) bytes text

abbrev pub TellsBytes : List ℕ → List ℕ → Type 0
TellsBytes bytes text = TellsBy (nat_lt text_limit (length bytes)) bytes text

abbrev pub TellsPiece : Piece → List ℕ → Type 0
TellsPiece too_long text = text ≡ long_text
TellsPiece (line bytes) text = TellsBytes bytes text

-- so each line is told, one after another
abbrev pub TellsPieces : List Piece → List ℕ → Type 0
TellsPieces [] text = text ≡ []
TellsPieces (p ∷ ps) text = (first rest : List ℕ) × (text ≡ first ++ rest) × TellsPiece p first × TellsPieces ps rest

abbrev pub TellsLines : List ℕ → List ℕ → Type 0
TellsLines input text = TellsPieces (pieces_of input) text

-- ---- as a stream

-- what answers a line remembers nothing
abbrev pub Nothing : Type 0
Nothing = Unit {0} × Unit {0}

abbrev pub Parses : Nothing → Piece → List ℕ → Nothing → Type 0
Parses old p text new = TellsPiece p text

-- an input is read to its end
abbrev pub is_over : Nothing → Bool
is_over state = false

-- the lines of a stream are told, and it ends so
module _ {R : Type 0} (fails : R → Type 0) (remaining : R → Option (List ℕ)) where
  abbrev pub ParsesStream : R → R → Option (List ℕ) → Option (List ℕ) → Result (Unit {0}) StreamError → Type 0
  ParsesStream reader rest held holds ended =
      (s : AnswersStream Parses is_over (tt, tt) (remaining reader) held (tt, tt) (remaining rest) holds)
      × StopsBy fails remaining rest false s.seen s.pieces s.left ended
