use Rattle.std.proofs.Common.{◌≡◌, ◌≤◌, ℕ, List, [], ◌∷◌, length, get_or, refl, ap, sym, ◌∙◌, arith}
use Rattle.sb_syntax.specs.declared.cursor.Token.{Token}
use Rattle.sb_syntax.specs.declared.kind.TokenKind.{TokenKind}
use Rattle.sb_syntax.specs.Cursor.{lexemes}
use Rattle.sb_syntax.specs.Input.{same_kind}
use Rattle.sb_syntax.specs.Reading.{sees}
use Rattle.sb_syntax.proofs.cursor.Cursor.sees.Goals as goal

sees_first : (kind : TokenKind) (text : List ℕ) (tokens : List Token) (d : Token) → 1 ≤ length tokens → sees kind (lexemes text tokens) ≡ same_kind (get_or tokens 0 d).kind kind
unfolding sees
sees_first kind text [] d some = absurd (omega arith)
sees_first kind text (t ∷ ts) d some = refl

pub returns-in-len1-up : goal.returns-in-len1-up
unfolding same_kind
returns-in-len1-up c = c.eq.ensures ∙ sym (sees_first c.args.kind c.self.inside.text.now c.self.inside.tokens.now _ c.in-len1-up.len_at_least) ∙ ap (sees c.args.kind) c.self.view_is
