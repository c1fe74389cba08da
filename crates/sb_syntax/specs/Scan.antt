-- Promise: cutting a text into tokens, as functions.
use Rattle.std.specs.Prelude.{ℕ, zero, suc, ◌+◌, ◌-◌, ◌==◌, nat_le, if◌then◌else◌, List, [], ◌∷◌, take, drop, Option, Some, None, option_map}
use Rattle.std.specs.List.{prefix_len}
use Rattle.sb_value.specs.Printable.{is_printable}
use Rattle.sb_syntax.specs.declared.cursor.Token.{Token}
use Rattle.sb_syntax.specs.declared.kind.TokenKind.{TokenKind}
use Rattle.sb_syntax.specs.declared.kind.TokenKind.TheVariants as k
use Rattle.sb_syntax.specs.Lex.{is_letter, is_digit, is_word, begins, word_kind, transition, two_bytes, one_byte}

-- a kind, and how many bytes
abbrev pub Found : Type 0
Found = Option (TokenKind × ℕ)

abbrev pub word_by : List ℕ → Option TokenKind → Found
word_by text (Some kind) = Some (kind, 11)
word_by text None = Some (word_kind (take (prefix_len is_word text) text), prefix_len is_word text)

unfoldable pub word_at : List ℕ → Found
word_at text = word_by text (transition text)

unfoldable pub integer_at : List ℕ → Found
integer_at text = if begins is_letter (drop (prefix_len is_digit text) text) then None else Some (k.Integer, prefix_len is_digit text)

-- behind the opening quote: how long the value is, and the bytes with the closing quote
abbrev pub longer : ℕ → Option (ℕ × ℕ) → Option (ℕ × ℕ)
longer n = option_map (λ p. (p.0 + 1, p.1 + n))

abbrev pub closing : List ℕ → Option (ℕ × ℕ)
closing [] = None
closing (b ∷ []) = if b == 39 then Some (0, 1) else None
closing (b ∷ c ∷ bs) = if b == 39 then (if c == 39 then longer 2 (closing bs) else Some (0, 1)) else (if is_printable b then longer 1 (closing (c ∷ bs)) else None)

abbrev pub text_by : Option (ℕ × ℕ) → Found
text_by None = None
text_by (Some p) = if nat_le p.0 255 then Some (k.Text, p.1 + 1) else None

unfoldable pub text_at : List ℕ → Found
text_at [] = None
text_at (b ∷ bs) = text_by (closing bs)

abbrev pub symbol_by : ℕ → Option TokenKind → Found
symbol_by b (Some kind) = Some (kind, 2)
symbol_by b None = option_map (λ kind. (kind, 1)) (one_byte b)

unfoldable pub symbol_at : List ℕ → Found
symbol_at [] = None
symbol_at (b ∷ []) = symbol_by b None
symbol_at (b ∷ c ∷ bs) = symbol_by b (two_bytes b c)

unfoldable pub token_at : List ℕ → Found
token_at [] = None
token_at (b ∷ bs) =
    if is_letter b then word_at (b ∷ bs) else (if is_digit b then integer_at (b ∷ bs) else (if b == 39 then text_at (b ∷ bs) else symbol_at (b ∷ bs)))

abbrev pub more_by : ℕ → Found → (ℕ → Option (List Token)) → Option (List Token)
more_by at None more = None
more_by at (Some p) more = option_map (λ ts. record { kind = p.0; start = at; end = at + p.1 } ∷ ts) (more p.1)

-- The first number counts the bytes left of a token, the second is the place.
unfoldable pub scan : ℕ → ℕ → List ℕ → Option (List Token)
scan left at [] = Some []
scan (suc left) at (b ∷ bs) = scan left (at + 1) bs
scan zero at (b ∷ bs) = if b == 32 then scan zero (at + 1) bs else more_by at (token_at (b ∷ bs)) (λ n. scan (n - 1) (at + 1) bs)
