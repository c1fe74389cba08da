-- Promise: a line with values in the places of its parameters, by the pieces of both.
use Rattle.std.specs.Prelude.{◌≡◌, ◌≤◌, ◌<◌, ℕ, zero, suc, ◌+◌, ◌-◌, ◌*◌, ◌^◌, nat_lt, ◌&&◌, if◌then◌else◌, List, [], ◌∷◌, ◌++◌, length, map, drop, flat_map, slice_get, Option, Some, None, option_and_then, Result, Ok, Err, Vec}
use Rattle.std.specs.Global.{Global}
use Rattle.std.specs.Fmt.{signed_decimal}
use Rattle.sb_value.specs.Literal.{quoted_text}
use Rattle.sb_value.specs.declared.value.Value.{Value}
use Rattle.sb_value.specs.declared.value.Value.TheVariants.{Int, Text}
use Rattle.sb_postgres.specs.declared.query.piece.PieceKind.{PieceKind}
use Rattle.sb_postgres.specs.declared.query.piece.PieceKind.TheVariants as k
use Rattle.sb_postgres.specs.declared.query.template.FillError.{FillError}
use Rattle.sb_postgres.specs.declared.query.template.FillError.TheVariants as error
use Rattle.sb_postgres.specs.Bytes.{is_digit}
use Rattle.sb_postgres.specs.Lines.{line_limit, refusal}
use Rattle.sb_postgres.specs.Pieces.{IsPiece, Pieces, HasPieces, end, refused, piece}

-- ---- a text and its pieces

-- pieces one behind the other, without their places
abbrev pub Cut : Type 0
Cut = List (PieceKind × List ℕ)

abbrev pub text_of : Cut → List ℕ
text_of = flat_map (λ c. c.1)

-- the text has these pieces, up to its end
pub data IsCut : List ℕ → Cut → Type 0 where
  no_more : IsCut [] []
  one_more : {kind : PieceKind} {bytes rest text : List ℕ} {more : Cut} → IsPiece kind bytes rest → text ≡ bytes ++ rest → IsCut rest more → IsCut text ((kind, bytes) ∷ more)

-- ---- values

-- a text is a constant with each quote doubled, and an integer's sign and digits are bytes
abbrev pub literal : Value → Cut
literal (Int z) = map (λ b. (k.Byte, b ∷ [])) (signed_decimal z)
literal (Text bytes) = (k.Constant, quoted_text bytes) ∷ []

abbrev pub space : PieceKind × List ℕ
space = (k.Blank, 32 ∷ [])

-- it stands between two spaces
abbrev pub spaced : Value → Cut
spaced v = space ∷ literal v ++ space ∷ []

-- a number with one more digit; no statement has 2 ^ 16 values
abbrev pub with_digit : ℕ → ℕ → Option ℕ
with_digit before b = if is_digit b && nat_lt (10 * before + (b - 48)) (2 ^ 16) then Some (10 * before + (b - 48)) else None

-- the number that these digits give behind others
abbrev pub number_behind : ℕ → List ℕ → Option ℕ
number_behind before [] = Some before
number_behind before (b ∷ bs) = option_and_then (λ n. number_behind n bs) (with_digit before b)

-- `$1` is the first of the values
abbrev pub numbered : List Value → ℕ → Option Value
numbered values zero = None
numbered values (suc n) = slice_get values n

abbrev pub value_of : List Value → List ℕ → Option Value
value_of values parameter = option_and_then (numbered values) (number_behind 0 (drop 1 parameter))

-- ---- a line with values

abbrev pub valued : ℕ → Option Value → Result Cut FillError
valued at None = Err (error.NoValue at)
valued at (Some v) = Ok (spaced v)

-- a parameter is its value, and everything else stays
abbrev pub part : List Value → PieceKind → ℕ → List ℕ → Result Cut FillError
part values k.Parameter at bytes = valued at (value_of values bytes)
part values kind at bytes = Ok ((kind, bytes) ∷ [])

abbrev pub joined : Result Cut FillError → Result Cut FillError → Result Cut FillError
joined (Ok front) (Ok behind) = Ok (front ++ behind)
joined (Ok front) (Err e) = Err e
joined (Err e) behind = Err e

-- the first fault from the left is told
unfoldable pub filled : List Value → Pieces → Result Cut FillError
filled values end = Ok []
filled values (refused f at) = Err (error.Refused (refusal f at))
filled values (piece kind at bytes more) = joined (part values kind at bytes) (filled values more)

-- the line with these values
abbrev pub HasFilled : List ℕ → List Value → Result Cut FillError → Type 0
HasFilled line values made = (ps : Pieces) × HasPieces 0 line ps × (filled values ps ≡ made)

-- What is made has the pieces of the line with these values, and no others; or it is told why there is none.
abbrev pub Fills : List ℕ → List Value → Result (Vec ℕ Global) FillError → Type 0
Fills line values (Ok made) = (cs : Cut) × HasFilled line values (Ok cs) × IsCut made.items cs × (length made.items ≤ line_limit)
Fills line values (Err error.Memory) = Unit {0}
Fills line values (Err error.TooLong) = (cs : Cut) × HasFilled line values (Ok cs) × (line_limit < length (text_of cs))
Fills line values (Err e) = HasFilled line values (Err e)

-- ---- how many values a line wants

abbrev pub numbered_at : ℕ → Option ℕ → Result ℕ FillError
numbered_at at None = Err (error.NoValue at)
numbered_at at (Some n) = Ok n

-- the number of a parameter, and 0 for any other piece
abbrev pub number_at : PieceKind → ℕ → List ℕ → Result ℕ FillError
number_at k.Parameter at bytes = numbered_at at (number_behind 0 (drop 1 bytes))
number_at kind at bytes = Ok 0

abbrev pub higher_of : ℕ → ℕ → ℕ
higher_of n m = if nat_lt n m then m else n

abbrev pub higher : Result ℕ FillError → Result ℕ FillError → Result ℕ FillError
higher (Ok n) (Ok m) = Ok (higher_of n m)
higher (Ok n) (Err e) = Err e
higher (Err e) behind = Err e

-- the highest of the numbers; the first fault from the left is told
unfoldable pub highest : Pieces → Result ℕ FillError
highest end = Ok 0
highest (refused f at) = Err (error.Refused (refusal f at))
highest (piece kind at bytes more) = higher (number_at kind at bytes) (highest more)

-- a line wants as many values as the highest number of its parameters, or it is told why that isn't known
abbrev pub Counts : List ℕ → Result ℕ FillError → Type 0
Counts line counted = (ps : Pieces) × HasPieces 0 line ps × (highest ps ≡ counted)
