-- Tokens of a text: the functions against what the tokens are.
use Rattle.std.proofs.Common.{◌≡◌, ◌↔◌, ◌≤◌, ◌+◌, ◌-◌, ◌==◌, ℕ, zero, suc, Bool, true, false, cond, List, [], ◌∷◌, ◌++◌, length, drop, take, Option, Some, None, Result, Ok, Err, IfOk, IfErr, option_map, refl, ap, sym, ◌∙◌, subst, length-append, arith}
use Rattle.std.proofs.lemmas.Bool.{eqb-true}
use Rattle.std.proofs.lemmas.List.{take-append-drop, length-take-le}
use Rattle.std.proofs.lemmas.Option.{same_Some}
use Rattle.sb_syntax.specs.declared.cursor.Token.{Token}
use Rattle.sb_syntax.specs.declared.kind.TokenKind.{TokenKind}
use Rattle.sb_syntax.specs.Lex as lex
use Rattle.sb_syntax.specs.Lex.{IsToken, AreTokens, is_letter, is_digit, is_word, all, begins, doubled, two_bytes, one_byte, word_kind, transition}
use Rattle.sb_syntax.specs.Scan.{scan, token_at, symbol_at, more_by}
use Rattle.sb_syntax.specs.Cursor.{AllWithin, lexemes}
use Rattle.sb_syntax.specs.declared.error.ParseError.{ParseError}
use Rattle.sb_syntax.specs.declared.error.ParseError.TheVariants.{Syntax, NoMemory}
use Rattle.sb_syntax.specs.Input.{Input}
use Rattle.sb_syntax.specs.Tree.{Command}
use Rattle.sb_syntax.specs.Grammar.{IsCommand}
use Rattle.sb_syntax.specs.Reading.{command}
use Rattle.sb_syntax.specs.Text.{Spells, NoTokens, NoCommand, Reading, command_of, command_by, read_by}
use Rattle.sb_syntax.proofs.SoundCommands.{command-sound}
use Rattle.sb_syntax.proofs.CompleteCommands.{command-reads, one_command}
use Rattle.sb_syntax.proofs.ScanLaws.{put, token-scan, space-scan}
use Rattle.sb_syntax.proofs.TokenSound.{token-sound}
use Rattle.sb_syntax.proofs.TokenReads.{token-reads}

-- no token begins with a space
space-none : (bs : List ℕ) → token_at (32 ∷ bs) ≡ None
unfolding token_at symbol_at
space-none [] = refl
space-none (c ∷ bs) = refl

a_token : (at : ℕ) (kind : TokenKind) (n : ℕ) (text : List ℕ) (ts : List Token) → IsToken kind (take n text) (drop n text) → n ≤ length text → AreTokens (at + n) (drop n text) ts → AreTokens at text (put kind at n ts)
a_token at kind n text ts is le rest =
    let e = length-take-le n text le in
    subst (λ (m : ℕ). AreTokens at text (put kind at m ts)) e (lex.token is (sym (take-append-drop n text)) (subst (λ (m : ℕ). AreTokens (at + m) (drop n text) ts) (sym e) rest))

-- how the two steps of a token go
split_map : {A B : Type 0} (f : A → B) (r : Option A) (y : B) → option_map f r ≡ Some y → (x : A) × (r ≡ Some x) × (f x ≡ y)
split_map f None y e = absurd (cc)
split_map f (Some x) y e = (x, refl, same_Some _ _ e)

scan-sound-from : (text : List ℕ) (left at : ℕ) (ts : List Token) → left ≤ length text → scan left at text ≡ Some ts → AreTokens (at + left) (drop left text) ts
unfolding scan
scan-sound-from [] zero at ts le e = subst (λ (xs : List Token). AreTokens (at + 0) [] xs) (same_Some _ _ e) lex.no_tokens
scan-sound-from [] (suc left) at ts le e = absurd (omega arith)
scan-sound-from (b ∷ bs) (suc left) at ts le e =
    let m : at + 1 + left ≡ at + suc left = omega arith in
    subst (λ (x : ℕ). AreTokens x (drop left bs) ts) m (scan-sound-from bs left (at + 1) ts (omega arith) e)
scan-sound-from (b ∷ bs) zero at ts le e = go (b == 32) refl (token_at (b ∷ bs)) refl (scan-sound-from bs) e
  where
    zero_on : (rest : AreTokens at (b ∷ bs) ts) → AreTokens (at + 0) (b ∷ bs) ts
    zero_on rest = let m : at ≡ at + 0 = omega arith in subst (λ (x : ℕ). AreTokens x (b ∷ bs) ts) m rest

    go : (is_space : Bool) → (b == 32) ≡ is_space → (found : Option (TokenKind × ℕ)) → token_at (b ∷ bs) ≡ found → ((left at : ℕ) (ts : List Token) → left ≤ length bs → scan left at bs ≡ Some ts → AreTokens (at + left) (drop left bs) ts)
        → cond is_space (scan zero (at + 1) bs) (more_by at found (λ n. scan (n - 1) (at + 1) bs)) ≡ Some ts → AreTokens (at + 0) (b ∷ bs) ts
    go true is found f rec e =
        let m : at + 1 + 0 ≡ at + 1 = omega arith in
        zero_on (subst (λ (x : ℕ). AreTokens at (x ∷ bs) ts) (sym (eqb-true b 32 is)) (lex.space (subst (λ (x : ℕ). AreTokens x bs ts) m (rec 0 (at + 1) ts (omega arith) e))))
    go false is None f rec e = absurd (cc)
    go false is (Some p) f rec e =
        let t = token-sound p.0 p.1 b bs f in
        let s = split_map (put p.0 at p.1) (scan (p.1 - 1) (at + 1) bs) ts e in
        let le : p.1 ≤ suc (length bs) = t.2 in
        let ge = t.1 in
        let r = rec (p.1 - 1) (at + 1) s.0 (omega arith) s.1 in
        let m : at + 1 + (p.1 - 1) ≡ at + p.1 = omega arith in
        let d : drop (p.1 - 1) bs ≡ drop p.1 (b ∷ bs) = one_more p.1 ge in
        zero_on (subst (λ (xs : List Token). AreTokens at (b ∷ bs) xs) s.2 (a_token at p.0 p.1 (b ∷ bs) s.0 t.0 t.2 (subst (λ (xs : List ℕ). AreTokens (at + p.1) xs s.0) d (subst (λ (x : ℕ). AreTokens x (drop (p.1 - 1) bs) s.0) m r))))
      where
        one_more : (n : ℕ) → 1 ≤ n → drop (n - 1) bs ≡ drop n (b ∷ bs)
        one_more zero le = absurd (omega arith)
        one_more (suc n) le = let e : suc n - 1 ≡ n = omega arith in ap (λ j. drop j bs) e

pub scan-sound : (text : List ℕ) (ts : List Token) → scan 0 0 text ≡ Some ts → AreTokens 0 text ts
scan-sound text ts e = scan-sound-from text 0 0 ts (omega arith) e

never : {A : Type 0} (x : A) → None ≡ Some x → ⊥
never x e = cc

step-reads : (at : ℕ) (kind : TokenKind) (n : ℕ) (text rest : List ℕ) (ts : List Token) → token_at text ≡ Some (kind, n) → 1 ≤ n → rest ≡ drop n text → scan 0 (at + n) rest ≡ Some ts → scan 0 at text ≡ Some (put kind at n ts)
unfolding token_at
step-reads at kind n [] rest ts found le is e = absurd (cc)
step-reads at kind n (b ∷ bs) rest ts found le is e =
    token-scan at b n bs kind (λ space. absurd (clash space)) found le ∙ ap (λ r. option_map (put kind at n) (scan 0 (at + n) r)) (sym is) ∙ ap (option_map (put kind at n)) e
  where
    clash : b ≡ 32 → ⊥
    clash space = never (kind, n) (sym (space-none bs) ∙ ap (λ x. token_at (x ∷ bs)) (sym space) ∙ found)

dropped : (bytes rest : List ℕ) → rest ≡ drop (length bytes) (bytes ++ rest)
dropped [] rest = refl
dropped (b ∷ bytes) rest = dropped bytes rest

nothing : (at : ℕ) → scan 0 at [] ≡ Some []
unfolding scan
nothing at = refl

scan-reads-from : (at : ℕ) (text : List ℕ) (ts : List Token) → AreTokens at text ts → scan 0 at text ≡ Some ts
scan-reads-from at text ts lex.no_tokens = nothing at
scan-reads-from at text ts (lex.space {rest = rest} d) = space-scan at 32 rest refl ∙ scan-reads-from (at + 1) rest ts d
scan-reads-from at text ts (lex.token {kind = kind} {bytes = bytes} {rest = rest} {ts = more} is e d) =
    let r = token-reads kind bytes rest is in
    ap (scan 0 at) e ∙ step-reads at kind (length bytes) (bytes ++ rest) rest more r.0 r.1 (dropped bytes rest) (scan-reads-from (at + length bytes) rest more d)

pub scan-reads : (text : List ℕ) (ts : List Token) → AreTokens 0 text ts → scan 0 0 text ≡ Some ts
scan-reads = scan-reads-from 0

pub one_cut : (text : List ℕ) (a b : List Token) → AreTokens 0 text a → AreTokens 0 text b → a ≡ b
one_cut text a b d e = same_Some _ _ (sym (scan-reads text a d) ∙ scan-reads text b e)

within_from : (at : ℕ) (whole text : List ℕ) (ts : List Token) → AreTokens at text ts → at + length text ≡ length whole → AllWithin whole ts
within_from at whole text ts lex.no_tokens e = tt
within_from at whole text ts (lex.space {rest = rest} d) e = within_from (at + 1) whole rest ts d (omega arith)
within_from at whole text ts (lex.token {bytes = bytes} {rest = rest} {ts = more} is split d) e =
    let l : length text ≡ length bytes + length rest = ap (length {A = ℕ}) split ∙ length-append bytes rest in
    (omega arith, omega (arith, l), within_from (at + length bytes) whole rest more d (omega (arith, l)))

pub within : (text : List ℕ) (ts : List Token) → AreTokens 0 text ts → AllWithin text ts
within text ts d = within_from 0 text text ts d (omega arith)

-- ---- the same of what a function returns

pub found_of : {X : Type 0} (view : X → List Token) (text : List ℕ) (limit : ℕ) (r : Result X ParseError) → Reading view (scan 0 0 text) limit r → IfOk r (λ x. AreTokens 0 text (view x))
found_of view text limit (Ok x) e = scan-sound text (view x) e
found_of view text limit (Err e) h = tt

pub within_of : {X : Type 0} (view : X → List Token) (text : List ℕ) (limit : ℕ) (r : Result X ParseError) → Reading view (scan 0 0 text) limit r → IfOk r (λ x. AllWithin text (view x))
within_of view text limit (Ok x) e = within text (view x) (scan-sound text (view x) e)
within_of view text limit (Err e) h = tt

pub none_of : {X : Type 0} (view : X → List Token) (text : List ℕ) (r : Result X ParseError) → Reading view (scan 0 0 text) (length text) r → IfErr r (NoTokens text)
none_of view text (Ok x) e = tt
none_of view text (Err NoMemory) h = tt
none_of view text (Err (Syntax place)) h = (h.1, λ ts d. never ts (sym h.0 ∙ scan-reads text ts d))

-- ---- and of commands

by_scan : (text : List ℕ) → command_of text ≡ command_by text (scan 0 0 text)
unfolding command_of
by_scan text = refl

read_so : (text : List ℕ) (ts : List Token) → AreTokens 0 text ts → command_of text ≡ read_by (command (lexemes text ts))
read_so text ts d = by_scan text ∙ ap (command_by text) (scan-reads text ts d)

pub computed : (text : List ℕ) (ts : List Token) (s : Command) (rest : Input) → AreTokens 0 text ts → command (lexemes text ts) ≡ Some (s, rest) → command_of text ≡ Some s
computed text ts s rest d e = read_so text ts d ∙ ap read_by e

pub spelled : (text : List ℕ) (ts : List Token) (s : Command) (rest : Input) → AreTokens 0 text ts → command (lexemes text ts) ≡ Some (s, rest) → Spells text s
spelled text ts s rest d e = record { tokens = ts; are = d; spell = command-sound (lexemes text ts) rest s e }

pub no_command : (text : List ℕ) (ts : List Token) → AreTokens 0 text ts → command (lexemes text ts) ≡ None → ((s : Command) → Spells text s → ⊥) × (command_of text ≡ None)
no_command text ts d e = (
  λ s h.
      let same = one_cut text h.tokens ts h.are d in
      never (s, []) (sym e ∙ command-reads s (lexemes text ts) (subst (λ (us : List Token). IsCommand s (lexemes text us)) same h.spell)),
  read_so text ts d ∙ ap read_by e,
)

scanned : (text : List ℕ) (o : Option (List Token)) → scan 0 0 text ≡ o → ((ts : List Token) → AreTokens 0 text ts → ⊥) → o ≡ None
scanned text None e none = refl
scanned text (Some ts) e none = absurd (none ts (scan-sound text ts e))

pub no_tokens-no_command : (text : List ℕ) (e : ParseError) → NoTokens text e → NoCommand text e
no_tokens-no_command text NoMemory h = tt
no_tokens-no_command text (Syntax place) h = (h.0, (λ s d. h.1 d.tokens d.are), by_scan text ∙ ap (command_by text) (scanned text (scan 0 0 text) refl h.1))

pub at_most_one : (text : List ℕ) (a b : Command) → Spells text a → Spells text b → a ≡ b
at_most_one text a b d e =
    let same = one_cut text d.tokens e.tokens d.are e.are in
    one_command (lexemes text e.tokens) a b (subst (λ (us : List Token). IsCommand a (lexemes text us)) same d.spell) e.spell

read-spelled : (text : List ℕ) (ts : List Token) (c : Command) → AreTokens 0 text ts → (o : Option (Command × Input)) → command (lexemes text ts) ≡ o → read_by o ≡ Some c → Spells text c
read-spelled text ts c d None is e = absurd (never c e)
read-spelled text ts c d (Some p) is e = subst (λ (s : Command). Spells text s) (same_Some _ _ e) (spelled text ts p.0 p.1 d is)

scan-spelled : (text : List ℕ) (c : Command) (o : Option (List Token)) → scan 0 0 text ≡ o → command_by text o ≡ Some c → Spells text c
scan-spelled text c None is e = absurd (never c e)
scan-spelled text c (Some ts) is e = read-spelled text ts c (scan-sound text ts is) (command (lexemes text ts)) refl e

pub command_of-grammar : (text : List ℕ) (c : Command) → Spells text c ↔ (command_of text ≡ Some c)
command_of-grammar text c = ((λ s. computed text s.tokens c [] s.are (command-reads c (lexemes text s.tokens) s.spell)), (λ e. scan-spelled text c (scan 0 0 text) refl (sym (by_scan text) ∙ e)))
