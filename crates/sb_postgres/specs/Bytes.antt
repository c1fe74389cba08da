-- Promise: the bytes of a query's text.
use Rattle.std.specs.Prelude.{ℕ, ◌+◌, Bool, true, false, ◌&&◌, ◌||◌, ◌==◌, nat_le, if◌then◌else◌, List, [], ◌∷◌}

-- space, and from tab to carriage return
abbrev pub is_blank : ℕ → Bool
is_blank b = b == 32 || (nat_le 9 b && nat_le b 13)

abbrev pub is_capital : ℕ → Bool
is_capital b = nat_le 65 b && nat_le b 90

-- a small letter or `_`
abbrev pub is_small : ℕ → Bool
is_small b = (nat_le 97 b && nat_le b 122) || b == 95

abbrev pub is_letter : ℕ → Bool
is_letter b = is_small b || is_capital b

abbrev pub is_digit : ℕ → Bool
is_digit b = nat_le 48 b && nat_le b 57

abbrev pub is_word : ℕ → Bool
is_word b = is_letter b || is_digit b

-- neither line feed nor carriage return, which end a line
abbrev pub is_in_line : ℕ → Bool
is_in_line b = if b == 10 then false else (if b == 13 then false else true)

abbrev pub is_printable : ℕ → Bool
is_printable b = nat_le 32 b && nat_le b 126

-- `'` or `"`
abbrev pub is_quote : ℕ → Bool
is_quote b = b == 39 || b == 34

-- the small letter of a capital
abbrev pub folded : ℕ → ℕ
folded b = if is_capital b then b + 32 else b

-- each of the bytes, the first of them, the first two
abbrev pub all : (ℕ → Bool) → List ℕ → Bool
all p [] = true
all p (b ∷ bs) = p b && all p bs

abbrev pub begins : (ℕ → Bool) → List ℕ → Bool
begins p [] = false
begins p (b ∷ bs) = p b

abbrev pub begins_two : (ℕ → Bool) → (ℕ → Bool) → List ℕ → Bool
begins_two p q [] = false
begins_two p q (b ∷ bs) = p b && begins q bs
