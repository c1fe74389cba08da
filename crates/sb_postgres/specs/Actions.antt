-- Promise: a rule's actions in parentheses, between which a `;` ends no statement.
use Rattle.std.specs.Prelude.{ℕ, zero, suc, ◌+◌, Bool, false, ◌&&◌, ◌==◌, if◌then◌else◌, List, [], ◌∷◌}
use Rattle.sb_postgres.specs.declared.query.actions.Scope.{Scope}
use Rattle.sb_postgres.specs.declared.query.actions.Scope.TheVariants.{Outside, BehindThen, InActions}
use Rattle.sb_postgres.specs.declared.query.piece.PieceKind.{PieceKind}
use Rattle.sb_postgres.specs.declared.query.piece.PieceKind.TheVariants as k
use Rattle.sb_postgres.specs.Bytes.{folded}
use Rattle.sb_postgres.specs.Pieces as pieces

-- one byte: 40 is `(`, and 41 is `)`
abbrev pub is_byte : ℕ → List ℕ → Bool
is_byte c [] = false
is_byte c (b ∷ []) = b == c
is_byte c (b ∷ d ∷ bs) = false

-- the word `then`
abbrev pub is_then : List ℕ → Bool
is_then (a ∷ b ∷ c ∷ d ∷ []) = folded a == 116 && (folded b == 104 && (folded c == 101 && folded d == 110))
is_then bytes = false

-- what a piece is: the parentheses around actions are blanks, and a `;` between them is a byte of the line
abbrev pub kind_in : Scope → PieceKind → List ℕ → PieceKind
kind_in BehindThen k.Byte bytes = if is_byte 40 bytes then k.Blank else k.Byte
kind_in (InActions zero) k.Byte bytes = if is_byte 41 bytes then k.Blank else k.Byte
kind_in (InActions depth) k.Semicolon bytes = k.Byte
kind_in scope kind bytes = kind

-- where parentheses are open inside of those around actions
abbrev pub closed_in : ℕ → Scope
closed_in zero = Outside
closed_in (suc depth) = InActions depth

-- where the text goes on behind a piece: actions begin at a `(` behind `then`, and end at its `)`
abbrev pub scope_after : Scope → PieceKind → List ℕ → Scope
scope_after scope k.Blank bytes = scope
scope_after (InActions depth) k.Byte bytes = if is_byte 40 bytes then InActions (depth + 1) else (if is_byte 41 bytes then closed_in depth else InActions depth)
scope_after (InActions depth) kind bytes = InActions depth
scope_after BehindThen k.Byte bytes = if is_byte 40 bytes then InActions 0 else Outside
scope_after scope k.Word bytes = if is_then bytes then BehindThen else Outside
scope_after scope kind bytes = Outside

-- the pieces of a text as what they are there
unfoldable pub scoped : Scope → pieces.Pieces → pieces.Pieces
scoped scope pieces.end = pieces.end
scoped scope (pieces.refused f at) = pieces.refused f at
scoped scope (pieces.piece kind at bytes more) = pieces.piece (kind_in scope kind bytes) at bytes (scoped (scope_after scope kind bytes) more)
