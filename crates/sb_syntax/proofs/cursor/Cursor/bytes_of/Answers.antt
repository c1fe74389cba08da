use Rattle.std.proofs.Common.{◌≡◌, ◌≤◌, ◌-◌, ℕ, List, [], ◌∷◌, length, get_or, take, drop, true, Some, refl, sym, ◌∙◌, arith}
use Rattle.sb_syntax.specs.declared.cursor.Token.{Token}
use Rattle.sb_syntax.specs.declared.kind.TokenKind.{TokenKind}
use Rattle.sb_syntax.specs.Cursor.{lexemes}
use Rattle.sb_syntax.specs.Input.{same_kind}
use Rattle.sb_syntax.specs.Reading.{bytes_of, next}
use Rattle.sb_syntax.proofs.cursor.Cursor.bytes_of.Goals as goal

bytes_first : (kind : TokenKind) (text : List ℕ) (tokens : List Token) (d : Token) → 1 ≤ length tokens → same_kind (get_or tokens 0 d).kind kind ≡ true
    → bytes_of kind (lexemes text tokens) ≡ Some (take ((get_or tokens 0 d).end - (get_or tokens 0 d).start) (drop (get_or tokens 0 d).start text), next (lexemes text tokens))
unfolding bytes_of next
bytes_first kind text [] d some same = absurd (omega arith)
bytes_first kind text (t ∷ ts) d some same = rw same refl

pub returns-in-len1-up : goal.returns-in-len1-up
unfolding same_kind
returns-in-len1-up c = rw (sym c.self.view_is) (bytes_first c.args.kind c.self.inside.text.now c.self.inside.tokens.now _ c.in-len1-up.len_at_least (sym c.eq.ensures ∙ c.if-eq.true))
