-- A clause is cut out of a line: the bytes that it has, alone, are made of its tokens.
use Rattle.std.proofs.Common.{◌≡◌, ◌≤◌, ◌+◌, ◌-◌, ◌==◌, ◌&&◌, inl, inr, ℕ, Bool, true, false, cond, List, [], ◌∷◌, ◌++◌, length, take, drop, Option, None, Some, is_some, slice_range, refl, ap, sym, ◌∙◌, subst, append_assoc, append-nil, length-append, arith}
use lib.Seq.{take-append_seam, drop-append_seam, drop-drop}
use Rattle.std.proofs.lemmas.Bool.{eqb-true, and_parts}
use Rattle.std.proofs.lemmas.List.{take-append-drop, take-append-le, drop-append-le}
use Rattle.std.proofs.lemmas.Option.{same_Some}
use Rattle.sb_syntax.proofs.Bytes.{length_front, letter-word}
use Rattle.sb_syntax.specs.declared.cursor.Token.{Token}
use Rattle.sb_syntax.specs.declared.kind.TokenKind.{TokenKind}
use Rattle.sb_syntax.specs.declared.kind.TokenKind.TheVariants as k
use Rattle.sb_syntax.specs.Cursor.{lexemes}
use Rattle.sb_syntax.specs.Input.{Input, same_kind}
use Rattle.sb_syntax.specs.Lex as lex
use Rattle.sb_syntax.specs.Lex.{IsToken, AreTokens, is_digit, is_letter, is_word, all, begins, doubled, one_byte, two_bytes, transition, word_kind}
use Rattle.sb_syntax.proofs.TokenLaws.{chosen, same_kind-true}
use Rattle.sb_syntax.proofs.TokenSound.{begins-transition}
use Rattle.sb_syntax.specs.Reading.{kind_at}
use Rattle.sb_catalog.specs.ClauseTexts.{is_space}
use Rattle.sb_catalog.specs.ClauseCuts.{begins_clause, behind, inside, end_of}

-- ---- what a text ends with

abbrev ends_in_word : List ℕ → Bool
ends_in_word [] = false
ends_in_word (b ∷ []) = is_word b
ends_in_word (b ∷ c ∷ bs) = ends_in_word (c ∷ bs)

-- no word goes on from one text into the next
abbrev pub IsClean : List ℕ → List ℕ → Type 0
IsClean front behind = ends_in_word front ≡ true → begins is_word behind ≡ false

pub both : (b : Bool) → b ≡ true → b ≡ false → ⊥
both true p q = let e : true ≡ false = q in cc
both false p q = let e : false ≡ true = p in cc

ends-append : (xs : List ℕ) (b : ℕ) (bs : List ℕ) → ends_in_word (xs ++ b ∷ bs) ≡ ends_in_word (b ∷ bs)
ends-append [] b bs = refl
ends-append (x ∷ []) b bs = refl
ends-append (x ∷ y ∷ xs) b bs = ends-append (y ∷ xs) b bs

begins_front : (p : ℕ → Bool) (xs ys : List ℕ) → begins p (xs ++ ys) ≡ false → begins p xs ≡ false
begins_front p [] ys e = refl
begins_front p (x ∷ xs) ys e = e

-- ---- the bytes of symbols

is_no_word : (n b : ℕ) → is_word n ≡ false → (b == n) ≡ true → is_word b ≡ false
is_no_word n b e is = subst (λ (x : ℕ). is_word x ≡ false) (sym (eqb-true b n is)) e

pub none : {A : Type 0} (x : A) → ◌≡◌ {A = Option A} None (Some x) → ⊥
none x e = cc

-- kinds of words with which clauses begin
abbrev pub leads : TokenKind → Bool
leads k.Name = true
leads k.Select = true
leads k.Insert = true
leads k.Delete = true
leads k.Update = true
leads k.Rollback = true
leads other = false

-- a byte that is in no word, and a kind that is none of those words
abbrev Apart : ℕ → TokenKind → Type 0
Apart b kind = (is_word b ≡ false) × (begins_clause kind ≡ false) × (leads kind ≡ false)

kind_of : (p : TokenKind → Bool) (a kind : TokenKind) → ◌≡◌ {A = Option TokenKind} (Some a) (Some kind) → p a ≡ false → p kind ≡ false
kind_of p a kind e f = subst (λ (x : TokenKind). p x ≡ false) (same_Some a kind e) f

is_apart : (n b : ℕ) (a kind : TokenKind) → is_word n ≡ false → begins_clause a ≡ false → leads a ≡ false → (b == n) ≡ true → ◌≡◌ {A = Option TokenKind} (Some a) (Some kind) → Apart b kind
is_apart n b a kind p q s is e = (is_no_word n b p is, kind_of begins_clause a kind e q, kind_of leads a kind e s)

one_apart : (b : ℕ) (kind : TokenKind) → one_byte b ≡ Some kind → Apart b kind
one_apart b kind e = elim (chosen (b == 40) _ _ kind e) [
  | inl p ↦ is_apart 40 b _ kind refl refl refl p.0 p.1
  | inr p ↦
      elim (chosen (b == 41) _ _ kind p.1) [
        | inl p ↦ is_apart 41 b _ kind refl refl refl p.0 p.1
        | inr p ↦
            elim (chosen (b == 44) _ _ kind p.1) [
              | inl p ↦ is_apart 44 b _ kind refl refl refl p.0 p.1
              | inr p ↦
                  elim (chosen (b == 59) _ _ kind p.1) [
                    | inl p ↦ is_apart 59 b _ kind refl refl refl p.0 p.1
                    | inr p ↦
                        elim (chosen (b == 46) _ _ kind p.1) [
                          | inl p ↦ is_apart 46 b _ kind refl refl refl p.0 p.1
                          | inr p ↦
                              elim (chosen (b == 42) _ _ kind p.1) [
                                | inl p ↦ is_apart 42 b _ kind refl refl refl p.0 p.1
                                | inr p ↦
                                    elim (chosen (b == 43) _ _ kind p.1) [
                                      | inl p ↦ is_apart 43 b _ kind refl refl refl p.0 p.1
                                      | inr p ↦
                                          elim (chosen (b == 45) _ _ kind p.1) [
                                            | inl p ↦ is_apart 45 b _ kind refl refl refl p.0 p.1
                                            | inr p ↦
                                                elim (chosen (b == 61) _ _ kind p.1) [
                                                  | inl p ↦ is_apart 61 b _ kind refl refl refl p.0 p.1
                                                  | inr p ↦
                                                      elim (chosen (b == 60) _ _ kind p.1) [
                                                        | inl p ↦ is_apart 60 b _ kind refl refl refl p.0 p.1
                                                        | inr p ↦
                                                            elim (chosen (b == 62) _ _ kind p.1) [
                                                              | inl p ↦ is_apart 62 b _ kind refl refl refl p.0 p.1
                                                              | inr p ↦
                                                                  absurd (none kind p.1)
                                                            ]
                                                      ]
                                                ]
                                          ]
                                    ]
                              ]
                        ]
                  ]
            ]
      ]
]

two_apart : (b c : ℕ) (kind : TokenKind) → two_bytes b c ≡ Some kind → Apart c kind
two_apart b c kind e = elim (chosen (b == 60 && c == 62) _ _ kind e) [
  | inl p ↦ is_apart 62 c _ kind refl refl refl (and_parts _ _ p.0).1 p.1
  | inr p ↦
      elim (chosen (b == 60 && c == 61) _ _ kind p.1) [
        | inl p ↦ is_apart 61 c _ kind refl refl refl (and_parts _ _ p.0).1 p.1
        | inr p ↦
            elim (chosen (b == 62 && c == 61) _ _ kind p.1) [ inl p ↦ is_apart 61 c _ kind refl refl refl (and_parts _ _ p.0).1 p.1 | inr p ↦ absurd (none kind p.1) ]
      ]
]

-- ---- transition words

transition_long : (xs : List ℕ) (kind : TokenKind) → transition xs ≡ Some kind → 11 ≤ length xs
transition_long xs kind e = elim (begins-transition xs kind e) [
  | inl p ↦ omega (arith, length_front 11 xs, ap (length {A = ℕ}) p)
  | inr p ↦ omega (arith, length_front 11 xs, ap (length {A = ℕ}) p)
]

all_of : (xs : List ℕ) → drop 11 xs ≡ [] → take 11 xs ≡ xs
all_of xs e = sym (append-nil (take 11 xs)) ∙ ap (λ r. take 11 xs ++ r) (sym e) ∙ take-append-drop 11 xs

-- such a word of a part is one of the whole, too
whole_transition : (xs ys : List ℕ) (kind : TokenKind) → IsClean xs ys → transition xs ≡ Some kind → transition (xs ++ ys) ≡ Some kind
unfolding transition
whole_transition xs ys kind clean e = elim (chosen (begins is_word (drop 11 xs)) _ _ kind e) [
  | inl p ↦ absurd (none kind p.1)
  | inr p ↦ (let long = transition_long xs kind e in
      rw (ap (begins is_word) (drop-append-le 11 xs ys long) ∙ go (drop 11 xs) refl p.0, take-append-le 11 xs ys long) p.1)
]
  where
    word_end : ends_in_word xs ≡ true → drop 11 xs ≡ [] → begins is_word ys ≡ false
    word_end last all = clean last

    last_of : drop 11 xs ≡ [] → ends_in_word xs ≡ true
    last_of all = elim (begins-transition xs kind e) [
      | inl p ↦ subst (λ (x : List ℕ). ends_in_word x ≡ true) (sym p ∙ all_of xs all) refl
      | inr p ↦ subst (λ (x : List ℕ). ends_in_word x ≡ true) (sym p ∙ all_of xs all) refl
    ]

    go : (r : List ℕ) → drop 11 xs ≡ r → begins is_word r ≡ false → begins is_word (r ++ ys) ≡ false
    go [] is f = clean (last_of is)
    go (c ∷ r) is f = f

transition_cut : (xs ys : List ℕ) → IsClean xs ys → transition (xs ++ ys) ≡ None → transition xs ≡ None
transition_cut xs ys clean is_none = go (transition xs) refl
  where
    go : (o : Option TokenKind) → transition xs ≡ o → o ≡ None
    go None is = refl
    go (Some kind) is = absurd (none kind (sym is_none ∙ whole_transition xs ys kind clean is))

dropped : (bytes ys : List ℕ) → length bytes ≡ 11 → drop 11 (bytes ++ ys) ≡ ys
dropped bytes ys long = subst (λ (n : ℕ). drop n (bytes ++ ys) ≡ ys) long (drop-append_seam bytes ys)

taken : (bytes ys : List ℕ) → length bytes ≡ 11 → take 11 (bytes ++ ys) ≡ bytes
taken bytes ys long = subst (λ (n : ℕ). take n (bytes ++ ys) ≡ bytes) long (take-append_seam bytes ys)

-- what follows a transition word doesn't go on with a word
pub transition_stops : (bytes rest : List ℕ) (kind : TokenKind) → length bytes ≡ 11 → transition (bytes ++ rest) ≡ Some kind → begins is_word rest ≡ false
unfolding transition
transition_stops bytes rest kind long e = elim (chosen (begins is_word (drop 11 (bytes ++ rest))) _ _ kind e) [
  | inl p ↦ absurd (none kind p.1)
  | inr p ↦ sym (ap (begins is_word) (dropped bytes rest long)) ∙ p.0
]

-- it is the same word whatever follows that doesn't
pub transition_with : (bytes rest other : List ℕ) (kind : TokenKind) → length bytes ≡ 11 → begins is_word other ≡ false → transition (bytes ++ rest) ≡ Some kind → transition (bytes ++ other) ≡ Some kind
unfolding transition
transition_with bytes rest other kind long stops e = elim (chosen (begins is_word (drop 11 (bytes ++ rest))) _ _ kind e) [
  | inl p ↦ absurd (none kind p.1)
  | inr p ↦ rw (ap (begins is_word) (dropped bytes other long) ∙ stops, taken bytes other long ∙ sym (taken bytes rest long)) p.1
]

-- ---- one token

token_clean : (kind : TokenKind) (bytes rest : List ℕ) → IsToken kind bytes rest → IsClean bytes rest
token_clean kind bytes rest (lex.word letter alls stops alone) last = stops
token_clean kind bytes rest (lex.transition_word long is) last = transition_stops bytes rest kind long is
token_clean kind bytes rest (lex.integer digit alls stops) last = stops
token_clean kind bytes rest (lex.text value print le stops) last = absurd (both _ last (ends-append (39 ∷ doubled value) 39 []))
token_clean kind bytes rest (lex.two {b = b} {c = c} is) last = absurd (both _ last (two_apart b c kind is).0)
token_clean kind bytes rest (lex.one {b = b} is stops) last = absurd (both _ last (one_apart b kind is).0)

-- a word behind which a clause begins ends where no word goes on
clause_word : (kind : TokenKind) (bytes rest : List ℕ) → IsToken kind bytes rest → begins_clause kind ≡ true → begins is_word rest ≡ false
clause_word kind bytes rest (lex.word letter alls stops alone) w = stops
clause_word kind bytes rest (lex.transition_word long is) w = transition_stops bytes rest kind long is
clause_word kind bytes rest (lex.integer digit alls stops) w = stops
clause_word kind bytes rest (lex.text value print le stops) w = absurd (cc)
clause_word kind bytes rest (lex.two {b = b} {c = c} is) w = absurd (both _ w (two_apart b c kind is).1)
clause_word kind bytes rest (lex.one {b = b} is stops) w = absurd (both _ w (one_apart b kind is).1)

-- a word with which a clause begins isn't joined to one in front of it
leading_word : (kind : TokenKind) (bytes rest : List ℕ) → IsToken kind bytes rest → leads kind ≡ true → begins is_word (bytes ++ rest) ≡ true
leading_word kind bytes rest (lex.word {b = b} letter alls stops alone) w = letter-word b letter
leading_word kind bytes rest (lex.transition_word long is) w = elim (begins-transition (bytes ++ rest) kind is) [
  | inl p ↦ by (bytes ++ rest) (ap (begins is_word) p)
  | inr p ↦ by (bytes ++ rest) (ap (begins is_word) p)
]
  where
    by : (xs : List ℕ) → begins is_word (take 11 xs) ≡ true → begins is_word xs ≡ true
    by [] e = e
    by (x ∷ xs) e = e
leading_word kind bytes rest (lex.integer digit alls stops) w = absurd (cc)
leading_word kind bytes rest (lex.text value print le stops) w = absurd (cc)
leading_word kind bytes rest (lex.two {b = b} {c = c} is) w = absurd (both _ w (two_apart b c kind is).2)
leading_word kind bytes rest (lex.one {b = b} is stops) w = absurd (both _ w (one_apart b kind is).2)

-- a text behind a word begins with a space, where its first token is such a word
pub behind_space : (at : ℕ) (whole text : List ℕ) (ts : List Token) (kind : TokenKind) → AreTokens at text ts → kind_at (lexemes whole ts) ≡ Some kind → leads kind ≡ true → begins is_word text ≡ false → begins is_space text ≡ true
unfolding kind_at
behind_space at whole text ts kind lex.no_tokens e w stops = absurd (none kind e)
behind_space at whole text ts kind (lex.space d) e w stops = refl
behind_space at whole text ts kind (lex.token {kind = first} {bytes = bytes} {rest = rest} is split d) e w stops =
    absurd (both _ (leading_word first bytes rest is (ap leads (same_Some first kind e) ∙ w)) (sym (ap (begins is_word) split) ∙ stops))

front_of : (p : ℕ → Bool) (rest front back : List ℕ) → rest ≡ front ++ back → begins p rest ≡ false → begins p front ≡ false
front_of p rest front back e stops = begins_front p front back (sym (ap (begins p) e) ∙ stops)

-- it is the same token where less follows, unless a word is cut
token_cut : (kind : TokenKind) (bytes rest front back : List ℕ) → rest ≡ front ++ back → IsToken kind bytes rest → IsClean (bytes ++ front) back → IsToken kind bytes front
token_cut kind bytes rest front back e (lex.word {b = b} {bs = bs} letter alls stops alone) clean =
    lex.word letter alls (front_of is_word rest front back e stops)
    (transition_cut (b ∷ bs ++ front) back clean (ap transition (append_assoc (b ∷ bs) front back ∙ ap (λ x. b ∷ bs ++ x) (sym e)) ∙ alone))
token_cut kind bytes rest front back e (lex.transition_word long is) clean =
    lex.transition_word long (transition_with bytes rest front kind long (front_of is_word rest front back e (transition_stops bytes rest kind long is)) is)
token_cut kind bytes rest front back e (lex.integer digit alls stops) clean = lex.integer digit alls (front_of is_word rest front back e stops)
token_cut kind bytes rest front back e (lex.text value print le stops) clean = lex.text value print le (front_of (λ b. b == 39) rest front back e stops)
token_cut kind bytes rest front back e (lex.two is) clean = lex.two is
token_cut kind bytes rest front back e (lex.one {b = b} is stops) clean = lex.one is (front_of (λ c. is_some (two_bytes b c)) rest front back e stops)

-- ---- the tokens up to some place

record CutAt (at : ℕ) (text : List ℕ) (mid : List Token) : Type 0 where
  front : List ℕ
  back : List ℕ
  split : text ≡ front ++ back
  are : AreTokens at front mid
  clean : IsClean front back
  place : at + length front ≡ end_of at mid

clean_on : (bytes rest front back : List ℕ) → rest ≡ front ++ back → IsClean bytes rest → IsClean front back → IsClean (bytes ++ front) back
clean_on bytes rest [] back e one more = subst (λ (x : List ℕ). IsClean x back) (sym (append-nil bytes)) (subst (λ (x : List ℕ). IsClean bytes x) e one)
clean_on bytes rest (a ∷ front) back e one more = λ last. more (sym (ends-append bytes a front) ∙ last)

clean_space : (front back : List ℕ) → IsClean front back → IsClean (32 ∷ front) back
clean_space [] back clean = λ last. absurd (both _ last refl)
clean_space (a ∷ front) back clean = clean

first_of : Token → List Token → Token
first_of t [] = t
first_of t (u ∷ us) = u

rest_of : List Token → List Token
rest_of [] = []
rest_of (u ∷ us) = us

same_first : (t m : Token) (ts ms : List Token) → t ∷ ts ≡ m ∷ ms → t ≡ m
unfolding first_of
same_first t m ts ms e = ap (first_of t) e

same_rest : (t m : Token) (ts ms : List Token) → t ∷ ts ≡ m ∷ ms → ts ≡ ms
unfolding rest_of
same_rest t m ts ms e = ap rest_of e

cut : (at : ℕ) (text : List ℕ) (ts mid post : List Token) → AreTokens at text ts → ts ≡ mid ++ post → CutAt at text mid
cut at text ts [] post d e = record { front = []; back = text; split = refl; are = lex.no_tokens; clean = λ last. absurd (both _ last refl); place = omega arith }
cut at text ts (m ∷ mid) post lex.no_tokens e = absurd (no_nil e)
  where
    no_nil : ◌≡◌ {A = List Token} [] (m ∷ mid ++ post) → ⊥
    no_nil e = cc
cut at text ts (m ∷ mid) post (lex.space {rest = rest} d) e = let r = cut (at + 1) rest ts (m ∷ mid) post d e in record {
  front = 32 ∷ r.front;
  back = r.back;
  split = ap (λ x. 32 ∷ x) r.split;
  are = lex.space r.are;
  clean = clean_space r.front r.back r.clean;
  place = omega (arith, r.place);
}
cut at text ts (m ∷ mid) post (lex.token {kind = kind} {bytes = bytes} {rest = rest} {ts = more} is split d) e =
    let t : Token = record { kind = kind; start = at; end = at + length bytes } in
    let heads = same_first t m more (mid ++ post) e in
    let r = cut (at + length bytes) rest more mid post d (same_rest t m more (mid ++ post) e) in
    let clean = clean_on bytes rest r.front r.back r.split (token_clean kind bytes rest is) r.clean in
    let place : at + length (bytes ++ r.front) ≡ end_of (at + length bytes) mid = omega (arith, length-append bytes r.front, r.place) in
    record {
      front = bytes ++ r.front;
      back = r.back;
      split = split ∙ ap (λ x. bytes ++ x) r.split ∙ sym (append_assoc bytes r.front r.back);
      are = subst (λ (u : Token). AreTokens at (bytes ++ r.front) (u ∷ mid)) heads (lex.token (token_cut kind bytes rest r.front r.back r.split is clean) refl r.are);
      clean = clean;
      place = place ∙ ap (λ (u : Token). end_of u.end mid) heads;
    }

-- ---- the tokens from some place on

record FoundBehind (at : ℕ) (text : List ℕ) (p : ℕ × List Token) : Type 0 where
  front : List ℕ
  rest : List ℕ
  split : text ≡ front ++ rest
  place : at + length front ≡ p.0
  are : AreTokens p.0 rest p.1
  apart : begins is_word rest ≡ false

no_pair : (p : ℕ × List Token) → ◌≡◌ {A = Option (ℕ × List Token)} None (Some p) → ⊥
no_pair p e = cc

found : (word : TokenKind) → begins_clause word ≡ true → (at : ℕ) (text : List ℕ) (ts : List Token) → AreTokens at text ts → (p : ℕ × List Token) → behind word ts ≡ Some p → FoundBehind at text p
found word w at text ts lex.no_tokens p e = absurd (no_pair p e)
found word w at text ts (lex.space {rest = rest} d) p e = let r = found word w (at + 1) rest ts d p e in record {
  front = 32 ∷ r.front;
  rest = r.rest;
  split = ap (λ x. 32 ∷ x) r.split;
  place = omega (arith, r.place);
  are = r.are;
  apart = r.apart;
}
found word w at text ts (lex.token {kind = kind} {bytes = bytes} {rest = rest} {ts = more} is split d) p e = elim (chosen (same_kind kind word) (Some (at + length bytes, more)) (behind word more) p e) [
  | inl h ↦ subst (λ (q : ℕ × List Token). FoundBehind at text q) (same_Some _ _ h.1) (record {
    front = bytes;
    rest = rest;
    split = split;
    place = refl;
    are = d;
    apart = clause_word kind bytes rest is (ap begins_clause (same_kind-true kind word h.0) ∙ w);
  })
  | inr h ↦ (let r = found word w (at + length bytes) rest more d p h.1 in record {
    front = bytes ++ r.front;
    rest = r.rest;
    split = split ∙ ap (λ x. bytes ++ x) r.split ∙ sym (append_assoc bytes r.front r.rest);
    place = omega (arith, length-append bytes r.front, r.place);
    are = r.are;
    apart = r.apart;
  })
]

-- ---- the same tokens at another place

pub record Moved (whole : List ℕ) (ts : List Token) (at : ℕ) (text : List ℕ) : Type 0 where
  pub tokens : List Token
  pub are : AreTokens at text tokens
  pub same : (other back : List ℕ) → drop at other ≡ text ++ back → lexemes other tokens ≡ lexemes whole ts

pub further : (at : ℕ) (whole bytes rest back : List ℕ) → drop at whole ≡ (bytes ++ rest) ++ back → drop (at + length bytes) whole ≡ rest ++ back
further at whole bytes rest back e = sym (drop-drop (length bytes) at whole) ∙ ap (drop (length bytes)) (e ∙ append_assoc bytes rest back) ∙ drop-append_seam bytes (rest ++ back)

its_bytes : (at : ℕ) (whole bytes rest back : List ℕ) → drop at whole ≡ (bytes ++ rest) ++ back → slice_range whole at (at + length bytes) ≡ bytes
its_bytes at whole bytes rest back e =
    let n : at + length bytes - at ≡ length bytes = omega arith in
    ap (λ m. take m (drop at whole)) n ∙ ap (take (length bytes)) (e ∙ append_assoc bytes rest back) ∙ take-append_seam bytes (rest ++ back)

pub moved : (whole back : List ℕ) (from at : ℕ) (text : List ℕ) (ts : List Token) → AreTokens from text ts → drop from whole ≡ text ++ back → Moved whole ts at text
moved whole back from at text ts lex.no_tokens e = record { tokens = []; are = lex.no_tokens; same = λ other behind f. refl }
moved whole back from at text ts (lex.space {rest = rest} d) e =
    let r = moved whole back (from + 1) (at + 1) rest ts d (further from whole (32 ∷ []) rest back e) in
    record { tokens = r.tokens; are = lex.space r.are; same = λ other behind f. r.same other behind (further at other (32 ∷ []) rest behind f) }
moved whole back from at text ts (lex.token {kind = kind} {bytes = bytes} {rest = rest} {ts = more} is split d) e =
    let here : drop from whole ≡ (bytes ++ rest) ++ back = e ∙ ap (λ x. x ++ back) split in
    let r = moved whole back (from + length bytes) (at + length bytes) rest more d (further from whole bytes rest back here) in
    record {
      tokens = record { kind = kind; start = at; end = at + length bytes } ∷ r.tokens;
      are = lex.token is split r.are;
      same = λ other behind f.
          let there : drop at other ≡ (bytes ++ rest) ++ behind = f ∙ ap (λ x. x ++ behind) split in
          ap (λ (b : List ℕ). record { kind = kind; text = b } ∷ lexemes other r.tokens) (its_bytes at other bytes rest behind there ∙ sym (its_bytes from whole bytes rest back here))
          ∙ ap (λ (l : Input). record { kind = kind; text = slice_range whole from (from + length bytes) } ∷ l) (r.same other behind (further at other bytes rest behind there));
    }

-- ---- a clause

inside_first : (ts : List Token) → (post : List Token) × (ts ≡ inside ts ++ post)
inside_first [] = ([], refl)
inside_first (t ∷ ts) = go (begins_clause t.kind) refl (inside_first ts)
  where
    go : (b : Bool) → begins_clause t.kind ≡ b → ((post : List Token) × (ts ≡ inside ts ++ post)) → (post : List Token) × (t ∷ ts ≡ inside (t ∷ ts) ++ post)
    go true is rec = (t ∷ ts, sym (ap (λ (b : Bool). cond b [] (t ∷ inside ts) ++ t ∷ ts) is))
    go false is rec = (rec.0, ap (λ x. t ∷ x) rec.1 ∙ sym (ap (λ (b : Bool). cond b [] (t ∷ inside ts) ++ rec.0) is))

-- a text that was cut out, with the tokens that it has alone
pub record CutOut (text : List ℕ) (read : Input) : Type 0 where
  pub apart : begins is_word text ≡ false
  pub tokens : List Token
  pub are : AreTokens 0 text tokens
  pub same : lexemes text tokens ≡ read

-- where it stands, and what it is
pub record IsCut (line : List ℕ) (start stop : ℕ) (read : Input) : Type 0 where
  pub order : start ≤ stop
  pub within : stop ≤ length line
  pub out : CutOut (slice_range line start stop) read

pub cut_out : (word : TokenKind) → begins_clause word ≡ true → (line : List ℕ) (ts : List Token) → AreTokens 0 line ts → (p : ℕ × List Token) → behind word ts ≡ Some p
    → IsCut line p.0 (end_of p.0 (inside p.1)) (lexemes line (inside p.1))
cut_out word w line ts d p e =
    let f = found word w 0 line ts d p e in
    let i = inside_first p.1 in
    let c = cut p.0 f.rest p.1 (inside p.1) i.0 f.are i.1 in
    let whole : line ≡ f.front ++ (c.front ++ c.back) = f.split ∙ ap (λ x. f.front ++ x) c.split in
    let start : length f.front ≡ p.0 = omega (arith, f.place) in
    let long : length line ≡ length f.front + (length c.front + length c.back) = ap (length {A = ℕ}) whole ∙ length-append f.front (c.front ++ c.back) ∙ ap (λ n. length f.front + n) (length-append c.front c.back) in
    let here : drop p.0 line ≡ c.front ++ c.back = ap (drop p.0) whole ∙ subst (λ (n : ℕ). drop n (f.front ++ (c.front ++ c.back)) ≡ c.front ++ c.back) start (drop-append_seam f.front (c.front ++ c.back)) in
    let m = moved line c.back p.0 0 c.front (inside p.1) c.are here in
    let bytes : slice_range line p.0 (end_of p.0 (inside p.1)) ≡ c.front = ap (slice_range line p.0) (sym c.place) ∙ its_bytes p.0 line c.front [] c.back (here ∙ ap (λ x. x ++ c.back) (sym (append-nil c.front))) in
    record {
      order = omega (arith, c.place);
      within = omega (arith, c.place, long, start);
      out = subst (λ (x : List ℕ). CutOut x (lexemes line (inside p.1))) (sym bytes) (record {
        apart = front_of is_word f.rest c.front c.back c.split f.apart;
        tokens = m.tokens;
        are = m.are;
        same = m.same c.front [] (sym (append-nil c.front));
      });
    }
