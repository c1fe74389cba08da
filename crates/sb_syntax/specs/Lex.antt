-- Promise: the tokens of a text: the bytes of each kind, and when a text is made of tokens and spaces.
use Rattle.std.specs.Prelude.{◌≡◌, ◌≤◌, ℕ, ◌+◌, Bool, true, false, ◌&&◌, ◌||◌, ◌==◌, nat_le, if◌then◌else◌, List, [], ◌∷◌, ◌++◌, length, take, drop, codes, Option, Some, None, is_some}
use Rattle.std.specs.Str.{bytes_eq}
use Rattle.sb_value.specs.Printable.{is_printable}
use Rattle.sb_syntax.specs.declared.cursor.Token.{Token}
use Rattle.sb_syntax.specs.declared.kind.TokenKind.{TokenKind}
use Rattle.sb_syntax.specs.declared.kind.TokenKind.TheVariants as k

-- ---- bytes

abbrev pub is_letter : ℕ → Bool
is_letter b = (nat_le 97 b && nat_le b 122) || b == 95

abbrev pub is_digit : ℕ → Bool
is_digit b = nat_le 48 b && nat_le b 57

abbrev pub is_word : ℕ → Bool
is_word b = is_letter b || is_digit b

abbrev pub all : (ℕ → Bool) → List ℕ → Bool
all p [] = true
all p (b ∷ bs) = p b && all p bs

-- the text goes on with such a byte
abbrev pub begins : (ℕ → Bool) → List ℕ → Bool
begins p [] = false
begins p (b ∷ bs) = p b

-- ---- words

abbrev pub lookup : List (List ℕ × TokenKind) → List ℕ → TokenKind
lookup [] word = k.Name
lookup (w ∷ ws) word = if bytes_eq w.0 word then w.1 else lookup ws word

-- the reserved words, but for the two with a dash, and the kind of each
abbrev pub reserved_words : List (List ℕ × TokenKind)
reserved_words =
    (codes "on", k.On) ∷ (codes "if", k.If) ∷ (codes "or", k.Or) ∷ (codes "in", k.In) ∷
    (codes "end", k.End) ∷ (codes "set", k.Set) ∷ (codes "and", k.And) ∷ (codes "not", k.Not) ∷
    (codes "sum", k.Sum) ∷ (codes "int", k.IntType) ∷ (codes "open", k.Open) ∷
    (codes "rule", k.Rule) ∷ (codes "drop", k.Drop) ∷ (codes "when", k.When) ∷
    (codes "then", k.Then) ∷ (codes "into", k.Into) ∷ (codes "from", k.From) ∷
    (codes "text", k.TextType) ∷ (codes "begin", k.Begin) ∷ (codes "rules", k.Rules) ∷
    (codes "alter", k.Alter) ∷ (codes "table", k.Table) ∷ (codes "where", k.Where) ∷
    (codes "count", k.Count) ∷ (codes "commit", k.Commit) ∷ (codes "create", k.Create) ∷
    (codes "insert", k.Insert) ∷ (codes "values", k.Values) ∷ (codes "delete", k.Delete) ∷
    (codes "update", k.Update) ∷ (codes "select", k.Select) ∷ (codes "exists", k.Exists) ∷
    (codes "process", k.Process) ∷ (codes "ruleset", k.Ruleset) ∷ (codes "follows", k.Follows) ∷
    (codes "deleted", k.Deleted) ∷ (codes "updated", k.Updated) ∷ (codes "rollback", k.Rollback) ∷
    (codes "precedes", k.Precedes) ∷ (codes "activate", k.Activate) ∷
    (codes "addrules", k.AddRules) ∷ (codes "delrules", k.DelRules) ∷
    (codes "inserted", k.Inserted) ∷ (codes "nopriority", k.NoPriority) ∷
    (codes "deactivate", k.Deactivate) ∷ []

-- a reserved word's kind, or that of a name
unfoldable pub word_kind : List ℕ → TokenKind
word_kind = lookup reserved_words

-- the transition word with which the text begins
unfoldable pub transition : List ℕ → Option TokenKind
transition text =
    if begins is_word (drop 11 text) then None
    else (if bytes_eq (take 11 text) (codes "old-updated") then Some k.OldUpdated else (if bytes_eq (take 11 text) (codes "new-updated") then Some k.NewUpdated else None))

-- ---- symbols

abbrev pub two_bytes : ℕ → ℕ → Option TokenKind
two_bytes b c =
    if b == 60 && c == 62 then Some k.NotEqual else (if b == 60 && c == 61 then Some k.LessEqual else (if b == 62 && c == 61 then Some k.GreaterEqual else None))

abbrev pub one_byte : ℕ → Option TokenKind
one_byte b =
    if b == 40 then Some k.LeftParen else (if b == 41 then Some k.RightParen else (if b == 44 then Some k.Comma else (if b == 59 then Some k.Semicolon else (if b == 46 then Some k.Dot
    else (if b == 42 then Some k.Star else (if b == 43 then Some k.Plus else (if b == 45 then Some k.Minus else (if b == 61 then Some k.Equal else (if b == 60 then Some k.Less else (if b == 62 then Some k.Greater else None))))))))))

-- ---- texts

-- each quote doubled
abbrev pub doubled : List ℕ → List ℕ
doubled [] = []
doubled (b ∷ bs) = if b == 39 then 39 ∷ 39 ∷ doubled bs else b ∷ doubled bs

-- ---- tokens: the kind, the bytes, and the bytes that follow
pub data IsToken : TokenKind → List ℕ → List ℕ → Type 0 where
  word : {b : ℕ} {bs rest : List ℕ} → is_letter b ≡ true → all is_word bs ≡ true → begins is_word rest ≡ false → transition (b ∷ bs ++ rest) ≡ None → IsToken (word_kind (b ∷ bs)) (b ∷ bs) rest
  transition_word : {kind : TokenKind} {bytes rest : List ℕ} → length bytes ≡ 11 → transition (bytes ++ rest) ≡ Some kind → IsToken kind bytes rest
  integer : {b : ℕ} {bs rest : List ℕ} → is_digit b ≡ true → all is_digit bs ≡ true → begins is_word rest ≡ false → IsToken k.Integer (b ∷ bs) rest
  text : (value : List ℕ) {rest : List ℕ} → all is_printable value ≡ true → length value ≤ 255 → begins (λ b. b == 39) rest ≡ false → IsToken k.Text (39 ∷ doubled value ++ 39 ∷ []) rest
  two : {kind : TokenKind} {b c : ℕ} {rest : List ℕ} → two_bytes b c ≡ Some kind → IsToken kind (b ∷ c ∷ []) rest
  one : {kind : TokenKind} {b : ℕ} {rest : List ℕ} → one_byte b ≡ Some kind → begins (λ c. is_some (two_bytes b c)) rest ≡ false → IsToken kind (b ∷ []) rest

-- from this place on, the text is made of these tokens and of spaces
pub data AreTokens : ℕ → List ℕ → List Token → Type 0 where
  no_tokens : {at : ℕ} → AreTokens at [] []
  space : {at : ℕ} {rest : List ℕ} {ts : List Token} → AreTokens (at + 1) rest ts → AreTokens at (32 ∷ rest) ts
  token : {at : ℕ} {kind : TokenKind} {bytes rest text : List ℕ} {ts : List Token} → IsToken kind bytes rest → text ≡ bytes ++ rest → AreTokens (at + length bytes) rest ts
      → AreTokens at text (record { kind = kind; start = at; end = at + length bytes } ∷ ts)
