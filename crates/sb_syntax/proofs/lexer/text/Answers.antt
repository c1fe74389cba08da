use Rattle.std.proofs.Common.{◌≡◌, ◌-◌, ◌<◌, ℕ, List, [], ◌∷◌, length, take, drop, Option, refl, ap, sym, ◌∙◌, arith}
use Rattle.std.proofs.lemmas.Bool.{le-leb, lt-leb}
use Rattle.std.proofs.lemmas.List.{take_rest}
use Rattle.sb_syntax.specs.Scan.{closing, text_at, text_by}
use Rattle.sb_syntax.proofs.lexer.text.Goals as goal

-- a text by what closes it behind the quote
closed_by : (bytes : List ℕ) (found : Option (ℕ × ℕ)) → 0 < length bytes → found ≡ closing (take (length bytes - 1) (drop 1 bytes)) → text_at bytes ≡ text_by found
unfolding text_at
closed_by [] found some is = absurd (omega arith)
closed_by (b ∷ bytes) found some is = ap text_by (sym (is ∙ ap closing (take_rest (b ∷ bytes) 1)))

pub returns-in_err-len-clause-value : goal.returns-in_err-len-clause-value
returns-in_err-len-clause-value c = c.from_residual.ensures ∙ sym (closed_by c.args.bytes.now _ c.requires c.in_err-len.ensures.value)

pub returns-then-len-gt-TEXT_LIMIT-clause-value : goal.returns-then-len-gt-TEXT_LIMIT-clause-value
returns-then-len-gt-TEXT_LIMIT-clause-value c = rw (closed_by c.args.bytes.now _ c.requires c.in_ok-len.ensures.value, lt-leb _ _ c.if-len-gt-TEXT_LIMIT.true) refl

pub returns-clause-value : goal.returns-clause-value
returns-clause-value c = rw (closed_by c.args.bytes.now _ c.requires c.in_ok-len.ensures.value, le-leb _ _ c.if-len-gt-TEXT_LIMIT.false) refl
