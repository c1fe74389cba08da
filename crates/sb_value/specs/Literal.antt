-- Promise: values as text.
use Rattle.std.specs.Prelude.{◌≡◌, ◌<◌, true, ℕ, ◌-◌, ◌^◌, ◌&&◌, ◌==◌, nat_lt, if◌then◌else◌, List, [], ◌∷◌, ◌++◌, length, flat_map, Option, Some, None, option_map, Result, Ok, Err, pos, negsuc, neg_ℤ, int_le}
use Rattle.std.specs.List.{list_all}
use Rattle.std.specs.Char.{is_ascii_digit}
use Rattle.std.specs.Fmt.{signed_decimal}
use Rattle.std.specs.Str.Parse.{digits_value}
use Rattle.sb_value.specs.Printable.{is_printable}
use Rattle.sb_value.specs.declared.value.Value.{Value}
use Rattle.sb_value.specs.declared.value.Value.TheVariants.{Int, Text}
use Rattle.sb_value.specs.declared.literal.LiteralError.{LiteralError}
use Rattle.sb_value.specs.declared.literal.LiteralError.TheVariants as error

abbrev pub quote : ℕ
quote = 39

abbrev pub minus : ℕ
minus = 45

-- ---- what is printed

abbrev pub doubled : ℕ → List ℕ
doubled b = if b == quote then quote ∷ quote ∷ [] else b ∷ []

abbrev pub quoted_text : List ℕ → List ℕ
quoted_text bytes = quote ∷ flat_map doubled bytes ++ quote ∷ []

abbrev pub value_text : Value → List ℕ
value_text (Int z) = signed_decimal z
value_text (Text bytes) = quoted_text bytes

-- ---- what is read

abbrev pub unsigned_of : List ℕ → Option ℕ
unsigned_of [] = None
unsigned_of (b ∷ bytes) = if list_all is_ascii_digit (b ∷ bytes) then Some (digits_value 10 (b ∷ bytes)) else None

-- after the first quote: each quote is doubled, but the last byte, which is one
abbrev pub text_of : List ℕ → Option (List ℕ)
text_of [] = None
text_of (b ∷ []) = if b == quote then Some [] else None
text_of (b ∷ c ∷ bytes) =
    if b == quote then (if c == quote then option_map (λ t. quote ∷ t) (text_of bytes) else None)
    else (if is_printable b then option_map (λ t. b ∷ t) (text_of (c ∷ bytes)) else None)

-- at the last byte, or where no part of a text stands: the end of the text, or none
abbrev pub end_of : List ℕ → Option (List ℕ)
end_of [] = None
end_of (b ∷ []) = if b == quote then Some [] else None
end_of (b ∷ c ∷ bytes) = None

-- the byte is the first of the text, and the tail is what stands behind it
pub record IsPart (quoted : List ℕ) (byte : ℕ) (tail : List ℕ) : Type 0 where
  pub first : text_of quoted ≡ option_map (λ t. byte ∷ t) (text_of tail)
  pub printable : is_printable byte ≡ true
  pub shorter : length tail < length quoted

-- the value of a literal, with no limit on a text's length or an integer's size
abbrev pub literal_of : List ℕ → Option Value
literal_of [] = None
literal_of (b ∷ bytes) =
    if b == quote then option_map Text (text_of bytes)
    else (if b == minus then option_map (λ n. Int (neg_ℤ (pos n))) (unsigned_of bytes)
    else option_map (λ n. Int (pos n)) (unsigned_of (b ∷ bytes)))

abbrev pub within_limits : Value → Result Value LiteralError
within_limits (Int z) = if int_le (negsuc (2 ^ 63 - 1)) z && int_le z (pos (2 ^ 63 - 1)) then Ok (Int z) else Err error.Overflow
within_limits (Text bytes) = if nat_lt 255 (length bytes) then Err error.TextTooLong else Ok (Text bytes)

abbrev pub limited : Option Value → Result Value LiteralError
limited None = Err error.BadType
limited (Some v) = within_limits v

abbrev pub literal_value : List ℕ → Result Value LiteralError
literal_value bytes = limited (literal_of bytes)

-- what is read is what the literal says, unless memory ran out
abbrev pub IsReading : Result Value LiteralError → Result Value LiteralError → Type 0
IsReading said (Ok v) = said ≡ Ok v
IsReading said (Err error.NoMemory) = Unit {0}
IsReading said (Err error.BadType) = said ≡ Err error.BadType
IsReading said (Err error.TextTooLong) = said ≡ Err error.TextTooLong
IsReading said (Err error.Overflow) = said ≡ Err error.Overflow
