-- Promise: the values of a statement's parameters, as a client sends them, in text or in binary.
use Rattle.std.specs.Prelude.{ℕ, ◌+◌, ◌==◌, ◌||◌, nat_lt, nat_le, if◌then◌else◌, Bool, List, [], ◌∷◌, length, slice_index, Option, Some, None, Result, Ok, Err, pos}
use Rattle.std.specs.Int.{w16, w32, w64, cast_signed, from_be_bytes}
use Rattle.std.specs.List.{list_all}
use Rattle.sb_value.specs.Literal.{literal_value}
use Rattle.sb_value.specs.Printable.{is_printable}
use Rattle.sb_value.specs.declared.literal.LiteralError.{LiteralError}
use Rattle.sb_value.specs.declared.literal.LiteralError.TheVariants as literal
use Rattle.sb_value.specs.declared.value.Value.{Value}
use Rattle.sb_value.specs.declared.value.Value.TheVariants.{Int, Text}
use Rattle.sb_frontend.specs.declared.argument.ParameterType.{ParameterType}
use Rattle.sb_frontend.specs.declared.argument.ParameterType.TheVariants as type
use Rattle.sb_frontend.specs.declared.denial.Denial.{Denial}
use Rattle.sb_frontend.specs.declared.denial.Denial.TheVariants as d

-- by the number of its object: int2, int4, int8, bool, text, varchar
abbrev pub type_of : ℕ → Option ParameterType
type_of id = if id == 21 then Some type.Int2 else (if id == 23 then Some type.Int4 else (if id == 20 then Some type.Int8 else (if id == 16 then Some type.Bool else (if id == 25 || id == 1_043 then Some type.Text else None))))

-- ---- one value

-- an integer in decimal, as the command language has it
abbrev pub integer_of : Result Value LiteralError → Result Value Denial
integer_of (Ok (Int z)) = Ok (Int z)
integer_of (Ok (Text bytes)) = Err d.NotOfType
integer_of (Err literal.NoMemory) = Err d.Memory
integer_of (Err literal.BadType) = Err d.NotOfType
integer_of (Err literal.TextTooLong) = Err d.NotOfType
integer_of (Err literal.Overflow) = Err d.OutOfRange

abbrev pub integer_text : List ℕ → Result Value Denial
integer_text bytes = integer_of (literal_value bytes)

-- `t` and `1`, `f` and `0`
abbrev pub truth_text : List ℕ → Result Value Denial
truth_text [] = Err d.NotOfType
truth_text (b ∷ []) = if b == 116 || b == 49 then Ok (Int (pos 1)) else (if b == 102 || b == 48 then Ok (Int (pos 0)) else Err d.NotOfType)
truth_text (b ∷ c ∷ bs) = Err d.NotOfType

-- at most 255 bytes of printable ASCII
abbrev pub letters : List ℕ → Result Value Denial
letters bytes = if nat_lt 255 (length bytes) then Err d.LongText else (if list_all is_printable bytes then Ok (Text bytes) else Err d.Unprintable)

abbrev pub in_text : ParameterType → List ℕ → Result Value Denial
in_text type.Int2 bytes = integer_text bytes
in_text type.Int4 bytes = integer_text bytes
in_text type.Int8 bytes = integer_text bytes
in_text type.Bool bytes = truth_text bytes
in_text type.Text bytes = letters bytes

-- as many bytes as the type has, the highest first, in two's complement
abbrev pub integer_bytes : ParameterType → List ℕ → Result Value Denial
integer_bytes type.Int2 (a ∷ b ∷ []) = Ok (Int (cast_signed w16 (from_be_bytes w16 (a ∷ b ∷ []))))
integer_bytes type.Int4 (a ∷ b ∷ c ∷ e ∷ []) = Ok (Int (cast_signed w32 (from_be_bytes w32 (a ∷ b ∷ c ∷ e ∷ []))))
integer_bytes type.Int8 (a ∷ b ∷ c ∷ e ∷ f ∷ g ∷ h ∷ i ∷ []) = Ok (Int (cast_signed w64 (from_be_bytes w64 (a ∷ b ∷ c ∷ e ∷ f ∷ g ∷ h ∷ i ∷ []))))
integer_bytes of bytes = Err d.WrongBytes

abbrev pub truth_byte : List ℕ → Result Value Denial
truth_byte [] = Err d.WrongBytes
truth_byte (b ∷ []) = if b == 1 then Ok (Int (pos 1)) else (if b == 0 then Ok (Int (pos 0)) else Err d.WrongBytes)
truth_byte (b ∷ c ∷ bs) = Err d.WrongBytes

abbrev pub in_binary : ParameterType → List ℕ → Result Value Denial
in_binary type.Int2 bytes = integer_bytes type.Int2 bytes
in_binary type.Int4 bytes = integer_bytes type.Int4 bytes
in_binary type.Int8 bytes = integer_bytes type.Int8 bytes
in_binary type.Bool bytes = truth_byte bytes
in_binary type.Text bytes = letters bytes

-- the format is 0 for text and 1 for binary
abbrev pub in_format : ℕ → ParameterType → List ℕ → Result Value Denial
in_format format of bytes = if format == 0 then in_text of bytes else (if format == 1 then in_binary of bytes else Err d.UnknownFormat)

-- there is no NULL
abbrev pub argument : Option ParameterType → ℕ → Option (List ℕ) → Result Value Denial
argument None format sent = Err d.UnknownType
argument (Some of) format None = Err d.Null
argument (Some of) format (Some bytes) = in_format format of bytes

-- ---- all values

-- without any format all are in text, and one is that of all
abbrev pub format_at : List ℕ → ℕ → ℕ
format_at formats k = if length formats == 1 then slice_index formats 0 else slice_index formats k

abbrev pub are_formats : ℕ → ℕ → Bool
are_formats formats values = nat_le formats 1 || formats == values

abbrev pub behind : Result Value Denial → Result (List Value) Denial → Result (List Value) Denial
behind (Err why) more = Err why
behind (Ok v) (Err why) = Err why
behind (Ok v) (Ok vs) = Ok (v ∷ vs)

-- from the k-th on; the first from the left that can't be read is told
abbrev pub arguments_from : ℕ → List ℕ → List ℕ → List (Option (List ℕ)) → Result (List Value) Denial
arguments_from k types formats [] = Ok []
arguments_from k types formats (sent ∷ more) = behind (argument (type_of (slice_index types k)) (format_at formats k) sent) (arguments_from (k + 1) types formats more)
