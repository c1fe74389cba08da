-- Which lines of an input are commands, as a stream tells it.
use Rattle.std.proofs.Common.{◌≡◌, ◌∙◌, ◌≤◌, ◌<◌, ◌+◌, sym, ap, subst, refl, inl, inr, ◌++◌, ◌∷◌, [], List, ℕ, Bool, true, false, append-nil, Option, Some, None, Result, Ok, Err, codes, decimal, length, nat_lt, arith, ltb-true, lt-ltb}
use Rattle.std.proofs.lemmas.Bool.{false≢true, false_from_ne_true}
use Rattle.std.specs.Prelude.{OnOk, IfSome}
use Rattle.std.specs.Io.KnownBytes.{Appends, Consumes, IsAtEnd}
use Rattle.sb_syntax.specs.Text.{command_of, text_limit}
use Rattle.sb_syntax.specs.Tree.{Command}
use Rattle.sb_wire.specs.Lines.{Piece, pieces_of}
use Rattle.sb_wire.specs.Responses.{AreAnswered}
use Rattle.sb_wire.specs.declared.fault.StreamError.{StreamError}
use Rattle.starhost.specs.Parses.{Nothing, Parses, ParsesStream, TellsBy, TellsBytes, TellsIfAny, TellsLines, TellsPieces, is_over, long_text}

-- ---- a line

-- a text is longer than a command may be
abbrev long : List ℕ → Bool
long bytes = nat_lt text_limit (length bytes)

is_within : (bytes : List ℕ) → length bytes ≤ text_limit → long bytes ≡ false
is_within bytes h = false_from_ne_true (long bytes) (λ e. let less = ltb-true text_limit (length bytes) e in absurd (omega arith))

by_command : (bytes text : List ℕ) → length bytes ≤ text_limit → TellsIfAny (command_of bytes) bytes text → TellsBytes bytes text
by_command bytes text h told = subst (λ b. TellsBy b bytes text) (sym (is_within bytes h)) told

pub tells_ok : (bytes : List ℕ) (c : Command) → length bytes ≤ text_limit → command_of bytes ≡ Some c → TellsBytes bytes (codes "ok\n")
tells_ok bytes c h is = by_command bytes (codes "ok\n") h (subst (λ o. TellsIfAny o bytes (codes "ok\n")) (sym is) refl)

pub tells_syntax : (bytes : List ℕ) (before : ℕ) → length bytes ≤ text_limit → before ≤ length bytes → command_of bytes ≡ None
    → TellsBytes bytes (codes "syntax " ++ decimal (before + 1) ++ codes "\n")
tells_syntax bytes before h within is = let text = codes "syntax " ++ decimal (before + 1) ++ codes "\n" in
    by_command bytes text h (subst (λ o. TellsIfAny o bytes text) (sym is) (before + 1, omega arith, omega arith, refl))

-- a line is told in some way
pub tells_some : (bytes : List ℕ) → (text : List ℕ) × TellsBytes bytes text
tells_some bytes = some (long bytes)
  where
    any : (o : Option Command) → (text : List ℕ) × TellsIfAny o bytes text
    any (Some c) = (codes "ok\n", refl)
    any None = (codes "syntax " ++ decimal 1 ++ codes "\n", (1, omega arith, omega arith, refl))

    some : (b : Bool) → (text : List ℕ) × TellsBy b bytes text
    some true = (long_text, refl)
    some false = any (command_of bytes)

-- a line that is longer than a command may be
pub tells_long : (bytes : List ℕ) → text_limit < length bytes → TellsBytes bytes long_text
tells_long bytes h = subst (λ b. TellsBy b bytes long_text) (sym (lt-ltb text_limit (length bytes) h)) refl

-- ---- a stream

tells : (old new : Nothing) (ps : List Piece) (text : List ℕ) → AreAnswered Parses is_over old ps text new → TellsPieces ps text
tells old new [] text h = h.0
tells old new (p ∷ ps) text (first, rest, mid, is, going, one, more) = (first, rest, is, one, tells mid new ps rest more)

pub parses-ok : {R : Type 0} (fails : R → Type 0) (remaining : R → Option (List ℕ)) (reader rest : R) (held holds : Option (List ℕ)) (r : Result (Unit {0}) StreamError)
    → ParsesStream fails remaining reader rest held holds r
    → OnOk r (IfSome (remaining reader) (λ input. (text : List ℕ) × Appends held holds text × TellsLines input text))
parses-ok fails remaining reader rest held holds (Err e) stream = tt
parses-ok fails remaining reader rest held holds (Ok x) (s, (none, inl (over, first))) = absurd (false≢true over)
parses-ok {R} fails remaining reader rest held holds (Ok x) (s, (none, inr (at_end, all))) = go (remaining reader) s.reads
  where
    go : (input : Option (List ℕ)) → Consumes input (remaining rest) s.seen → IfSome input (λ bytes. (text : List ℕ) × Appends held holds text × TellsLines bytes text)
    go None reads = tt
    go (Some bytes) reads =
        let text = s.lines.text in
        let whole : text ≡ s.lines.written = s.lines.whole ∙ ap (λ (t : List ℕ). s.lines.written ++ t) none ∙ append-nil s.lines.written in
        let is : s.seen ≡ bytes = read-all (remaining rest) bytes s.seen reads at_end in (
          text,
          subst (λ (t : List ℕ). Appends held holds t) (sym whole) s.lines.appends,
          subst (λ (ps : List Piece). TellsPieces ps text) (all ∙ ap pieces_of is) (tells (tt, tt) (tt, tt) s.pieces text s.lines.answered),
        )
      where
        read-all : (left : Option (List ℕ)) (bytes seen : List ℕ) → Consumes (Some bytes) left seen → IsAtEnd left → seen ≡ bytes
        read-all None bytes seen reads at_end = absurd reads
        read-all (Some left) bytes seen reads at_end = sym (reads ∙ ap (λ (t : List ℕ). seen ++ t) at_end ∙ append-nil seen)
