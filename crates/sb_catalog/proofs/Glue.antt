-- Texts one behind the other: their tokens are the line's.
use Rattle.std.proofs.Common.{◌≡◌, ◌≤◌, ◌<◌, ◌+◌, ◌-◌, ◌==◌, ◌&&◌, ◌||◌, inl, inr, ℕ, zero, suc, Bool, true, false, cond, List, [], ◌∷◌, ◌++◌, length, take, drop, Option, None, Some, is_some, refl, ap, sym, ◌∙◌, subst, append_assoc, append-nil, length-append, arith}
use Rattle.std.proofs.lemmas.Bool.{cases_lt}
use Rattle.std.proofs.lemmas.List.{take-append-le, drop-append-le}
use Rattle.sb_syntax.specs.declared.cursor.Token.{Token}
use Rattle.sb_syntax.specs.declared.kind.TokenKind.{TokenKind}
use Rattle.sb_syntax.specs.declared.kind.TokenKind.TheVariants as k
use Rattle.sb_syntax.specs.Cursor.{lexemes}
use Rattle.sb_syntax.specs.Input.{Input}
use Rattle.sb_syntax.specs.Lex as lex
use Rattle.sb_syntax.specs.Lex.{IsToken, AreTokens, begins, is_word, transition, two_bytes}
use Rattle.sb_syntax.proofs.TokenLaws.{chosen}
use Rattle.sb_syntax.proofs.TokenSound.{begins-transition}
use Rattle.sb_catalog.proofs.Cut.{both, further, moved, none, transition_stops, transition_with}

-- ---- a text that a space follows

has_space : List ℕ → Bool
has_space [] = false
has_space (b ∷ bs) = (b == 32) || has_space bs

-- so early a space is among the first bytes
early : (n : ℕ) (xs ys : List ℕ) → length xs < n → has_space (take n (xs ++ 32 ∷ ys)) ≡ true
unfolding has_space
early zero xs ys lt = absurd (omega arith)
early (suc n) [] ys lt = refl
early (suc n) (x ∷ xs) ys lt = by (x == 32) (early n xs ys (omega arith))
  where
    by : (b : Bool) → has_space (take n (xs ++ 32 ∷ ys)) ≡ true → (b || has_space (take n (xs ++ 32 ∷ ys))) ≡ true
    by true e = refl
    by false e = e

no_space : (xs ys : List ℕ) (kind : TokenKind) → length xs < 11 → transition (xs ++ 32 ∷ ys) ≡ Some kind → ⊥
unfolding has_space
no_space xs ys kind lt e = elim (begins-transition (xs ++ 32 ∷ ys) kind e) [
  | inl p ↦ both _ (early 11 xs ys lt) (ap has_space p)
  | inr p ↦ both _ (early 11 xs ys lt) (ap has_space p)
]

-- what goes on with a word does so whatever follows
goes_on : (p : ℕ → Bool) (xs ys : List ℕ) → begins p xs ≡ true → begins p (xs ++ ys) ≡ true
goes_on p [] ys e = absurd (both false e refl)
goes_on p (x ∷ xs) ys e = e

-- a transition word that a longer text begins with is there before the space
shorter : (xs ys : List ℕ) (kind : TokenKind) → 11 ≤ length xs → transition (xs ++ 32 ∷ ys) ≡ Some kind → transition xs ≡ Some kind
unfolding transition
shorter xs ys kind le e = elim (chosen (begins is_word (drop 11 (xs ++ 32 ∷ ys))) _ _ kind e) [
  | inl p ↦ absurd (none kind p.1)
  | inr p ↦ rw (stops (begins is_word (drop 11 xs)) refl (sym (ap (begins is_word) (drop-append-le 11 xs (32 ∷ ys) le)) ∙ p.0), sym (take-append-le 11 xs (32 ∷ ys) le)) p.1
]
  where
    stops : (b : Bool) → begins is_word (drop 11 xs) ≡ b → begins is_word (drop 11 xs ++ 32 ∷ ys) ≡ false → begins is_word (drop 11 xs) ≡ false
    stops true is f = absurd (both _ (goes_on is_word (drop 11 xs) (32 ∷ ys) is) f)
    stops false is f = is

transition_spaced : (xs ys : List ℕ) → transition xs ≡ None → transition (xs ++ 32 ∷ ys) ≡ None
transition_spaced xs ys e = by (transition (xs ++ 32 ∷ ys)) refl
  where
    by : (o : Option TokenKind) → transition (xs ++ 32 ∷ ys) ≡ o → o ≡ None
    by None is = refl
    by (Some kind) is = elim (cases_lt (length xs) 11) [
      | inl lt ↦ absurd (no_space xs ys kind lt is)
      | inr ge ↦ absurd (none kind (sym e ∙ shorter xs ys kind ge is))
    ]

stops_spaced : (p : ℕ → Bool) (xs ys : List ℕ) → p 32 ≡ false → begins p xs ≡ false → begins p (xs ++ 32 ∷ ys) ≡ false
stops_spaced p [] ys e f = e
stops_spaced p (x ∷ xs) ys e f = f

two_space : (b : ℕ) → is_some (two_bytes b 32) ≡ false
two_space b = by (b == 60) (b == 62)
  where
    by : (x y : Bool) → is_some (cond (x && false) (Some k.NotEqual) (cond (x && false) (Some k.LessEqual) (cond (y && false) (Some k.GreaterEqual) None))) ≡ false
    by true true = refl
    by true false = refl
    by false true = refl
    by false false = refl

token_spaced : (kind : TokenKind) (bytes rest ys : List ℕ) → IsToken kind bytes rest → IsToken kind bytes (rest ++ 32 ∷ ys)
token_spaced kind bytes rest ys (lex.word {b = b} {bs = bs} letter alls stops alone) =
    lex.word letter alls (stops_spaced is_word rest ys refl stops) (ap transition (sym (append_assoc (b ∷ bs) rest (32 ∷ ys))) ∙ transition_spaced (b ∷ bs ++ rest) ys alone)
token_spaced kind bytes rest ys (lex.transition_word long is) =
    lex.transition_word long (transition_with bytes rest (rest ++ 32 ∷ ys) kind long (stops_spaced is_word rest ys refl (transition_stops bytes rest kind long is)) is)
token_spaced kind bytes rest ys (lex.integer digit alls stops) = lex.integer digit alls (stops_spaced is_word rest ys refl stops)
token_spaced kind bytes rest ys (lex.text value print le stops) = lex.text value print le (stops_spaced (λ b. b == 39) rest ys refl stops)
token_spaced kind bytes rest ys (lex.two is) = lex.two is
token_spaced kind bytes rest ys (lex.one {b = b} is stops) = lex.one is (stops_spaced (λ c. is_some (two_bytes b c)) rest ys (two_space b) stops)

-- nothing follows, or a space
pub data Spaced : List ℕ → Type 0 where
  nothing : Spaced []
  space : {ys : List ℕ} → Spaced (32 ∷ ys)

token_more : (kind : TokenKind) (bytes rest ys : List ℕ) → Spaced ys → IsToken kind bytes rest → IsToken kind bytes (rest ++ ys)
token_more kind bytes rest ys nothing is = subst (IsToken kind bytes) (sym (append-nil rest)) is
token_more kind bytes rest ys (space {ys = more}) is = token_spaced kind bytes rest more is

joined : (at : ℕ) (xs ys : List ℕ) (ts us : List Token) → Spaced ys → AreTokens at xs ts → AreTokens (at + length xs) ys us → AreTokens at (xs ++ ys) (ts ++ us)
joined at xs ys ts us s lex.no_tokens e = let m : at + 0 ≡ at = omega arith in subst (λ (n : ℕ). AreTokens n ys us) m e
joined at xs ys ts us s (lex.space {rest = rest} d) e =
    let m : at + suc (length rest) ≡ at + 1 + length rest = omega arith in
    lex.space (joined (at + 1) rest ys ts us s d (subst (λ (n : ℕ). AreTokens n ys us) m e))
joined at xs ys ts us s (lex.token {kind = kind} {bytes = bytes} {rest = rest} {ts = more} is split d) e =
    let m : at + length xs ≡ at + length bytes + length rest = omega (arith, ap (length {A = ℕ}) split, length-append bytes rest) in
    lex.token (token_more kind bytes rest ys s is) (ap (λ x. x ++ ys) split ∙ append_assoc bytes rest ys) (joined (at + length bytes) rest ys more us s d (subst (λ (n : ℕ). AreTokens n ys us) m e))

-- ---- a text with its tokens, wherever it stands

pub record LexedAt (at : ℕ) (text : List ℕ) (read : Input) : Type 0 where
  pub tokens : List Token
  pub are : AreTokens at text tokens
  pub same : (whole back : List ℕ) → drop at whole ≡ text ++ back → lexemes whole tokens ≡ read

abbrev pub Lexed : List ℕ → Input → Type 0
Lexed text read = (at : ℕ) → LexedAt at text read

lexemes-append : (whole : List ℕ) (ts us : List Token) → lexemes whole (ts ++ us) ≡ lexemes whole ts ++ lexemes whole us
lexemes-append whole [] us = refl
lexemes-append whole (t ∷ ts) us = ap (λ (x : Input). record { kind = t.kind; text = lex_bytes } ∷ x) (lexemes-append whole ts us)
  where
    lex_bytes : List ℕ
    lex_bytes = take (t.end - t.start) (drop t.start whole)

pub glued : (xs ys : List ℕ) (read more : Input) → Spaced ys → Lexed xs read → Lexed ys more → Lexed (xs ++ ys) (read ++ more)
glued xs ys read more s a b at =
    let x = a at in
    let y = b (at + length xs) in
    record {
      tokens = x.tokens ++ y.tokens;
      are = joined at xs ys x.tokens y.tokens s x.are y.are;
      same = λ whole back e. lexemes-append whole x.tokens y.tokens
          ∙ ap (λ (i : Input). i ++ lexemes whole y.tokens) (x.same whole (ys ++ back) (e ∙ append_assoc xs ys back))
          ∙ ap (λ (i : Input). read ++ i) (y.same whole back (further at whole xs ys back e));
    }

pub of_tokens : (text : List ℕ) (ts : List Token) → AreTokens 0 text ts → Lexed text (lexemes text ts)
of_tokens text ts d at = let m = moved text [] 0 at text ts d (sym (append-nil text)) in record { tokens = m.tokens; are = m.are; same = m.same }
