use Rattle.std.proofs.Common.{◌≡◌, ◌≤◌, ℕ, List, length, true, Some, ap, sym, ◌∙◌, refl, arith}
use Rattle.std.specs.List.{list_all}
use Rattle.std.proofs.lemmas.Bool.{le-leb}
use Rattle.sb_value.specs.Printable.{is_printable}
use Rattle.sb_value.specs.declared.value.Value.TheVariants.{Text}
use Rattle.sb_syntax.specs.declared.kind.TokenKind.TheVariants as k
use Rattle.sb_syntax.specs.Input.{Input}
use Rattle.sb_syntax.specs.Literal.{unquoted}
use Rattle.sb_syntax.specs.Reading.{text, bytes_of}
use Rattle.sb_syntax.proofs.literal.text.Goals as goal

text_is : (ts rest new : Input) (quoted value : List ℕ) → bytes_of k.Text ts ≡ Some (quoted, rest) → value ≡ unquoted quoted → length value ≤ 255 → list_all is_printable value ≡ true → new ≡ rest → text ts ≡ Some (Text value, new)
unfolding text
text_is ts rest new quoted value e is le ok past = rw (e, ← is, le-leb _ _ le, ok, past) refl

pub returns-in-Some-2 : goal.returns-in-Some-2
returns-in-Some-2 c =
    let b = rw c.in-Some-2.is at c.in_ok-bytes.ensures in
    let new = c.in_ok-text.ensures in
    (text_is _ _ _ c.in-Some.quoted.now _ c.in-Some.ensures (new ∙ b.0) (omega (arith, b.1, ap (length {A = _}) new)) (ap (list_all is_printable) new ∙ b.2) c.skip.ensures.value, c.skip.ensures.shorter)

pub returns : goal.returns
returns c =
    let new = c.in_ok-text-2.ensures in
    (text_is _ _ _ c.in-Some.quoted.now _ c.in-Some.ensures (new ∙ c.in_ok-bytes-2.ensures) (omega (arith, c.if-len-gt-TEXT_LIMIT.false, c.in_ok-bytes-2.bytes.ok.0, ap (length {A = _}) new)) (ap (list_all is_printable) new ∙ ap (list_all is_printable) (sym c.as_slice.ensures.value) ∙ sym c.all_printable.ensures ∙ c.if-not-all_printable.false) c.skip-2.ensures.value, c.skip-2.ensures.shorter)
