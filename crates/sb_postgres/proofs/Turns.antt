-- One step of reading statements: the lines from a place on.
use Rattle.std.proofs.Common.{◌≡◌, ◌≤◌, ◌<◌, ◌+◌, ◌-◌, ℕ, zero, suc, Bool, true, false, cond, List, [], ◌∷◌, length, take, drop, Ok, Err, refl, ap, sym, ◌∙◌, arith}
use Rattle.std.proofs.lemmas.Bool.{ne_eqb}
use Rattle.std.proofs.lemmas.List.{drop-drop, drop_all, take_rest, length-drop}
use Rattle.sb_postgres.specs.declared.query.actions.Scope.{Scope}
use Rattle.sb_postgres.specs.declared.query.actions.Scope.TheVariants.{Outside, BehindThen, InActions}
use Rattle.sb_postgres.specs.declared.query.error.Fault.{Fault}
use Rattle.sb_postgres.specs.declared.query.error.QueryError.{QueryError}
use Rattle.sb_postgres.specs.declared.query.error.QueryError.TheVariants as errors
use Rattle.sb_postgres.specs.declared.query.error.Refusal.{Refusal}
use Rattle.sb_postgres.specs.declared.query.piece.PieceKind.{PieceKind}
use Rattle.sb_postgres.specs.declared.query.piece.PieceKind.TheVariants as k
use Rattle.sb_postgres.specs.Actions.{is_byte, kind_in, scope_after, scoped}
use Rattle.sb_postgres.specs.Drafting.{IsFound, Makes}
use Rattle.sb_postgres.specs.Drafts.{Drafted, drafted_lines, drafted_by, with_piece, drafted_closed, nothing}
use Rattle.sb_postgres.specs.Lines.{Lines, end, refused, line, refusal}
use Rattle.sb_postgres.specs.Pieces as p
use Rattle.sb_postgres.specs.Cutting.{IsFirst}
use Rattle.sb_postgres.specs.Scan.{piece_at, pieces, pieces_by}

-- what is left of a piece is passed over
pub pieces-left : (left at : ℕ) (text : List ℕ) → pieces left at text ≡ pieces 0 (at + left) (drop left text)
unfolding pieces
pieces-left zero at text = let e : at ≡ at + 0 = omega arith in ap (λ n. pieces 0 n text) e
pieces-left (suc n) at [] = refl
pieces-left (suc n) at (b ∷ bs) = let e : at + 1 + n ≡ at + suc n = omega arith in pieces-left n (at + 1) bs ∙ ap (λ m. pieces 0 m (drop n bs)) e

pub pieces-found : (at : ℕ) (rest : List ℕ) (kind : PieceKind) (len : ℕ) → 0 < length rest → 1 ≤ len → piece_at rest ≡ Ok (kind, len)
    → pieces 0 at rest ≡ p.piece kind at (take len rest) (pieces 0 (at + len) (drop len rest))
unfolding pieces
pieces-found at [] kind len l m e = absurd (omega arith)
pieces-found at (b ∷ bs) kind zero l m e = absurd (omega arith)
pieces-found at (b ∷ bs) kind (suc n) l m e =
    let s : pieces 0 at (b ∷ bs) ≡ p.piece kind at (take (suc n) (b ∷ bs)) (pieces (suc n - 1) (at + 1) bs) = ap (λ f. pieces_by at (b ∷ bs) f (λ i. pieces (i - 1) (at + 1) bs)) e in
    let one : suc n - 1 ≡ n = omega arith in
    let sum : at + 1 + n ≡ at + suc n = omega arith in
    let more : pieces (suc n - 1) (at + 1) bs ≡ pieces 0 (at + suc n) (drop n bs) = ap (λ i. pieces i (at + 1) bs) one ∙ (pieces-left n (at + 1) bs ∙ ap (λ i. pieces 0 i (drop n bs)) sum) in
    s ∙ ap (p.piece kind at (take (suc n) (b ∷ bs))) more

pub pieces-fault : (at : ℕ) (rest : List ℕ) (f : Fault) → 0 < length rest → piece_at rest ≡ Err f → pieces 0 at rest ≡ p.refused f at
unfolding pieces
pieces-fault at [] f l e = absurd (omega arith)
pieces-fault at (b ∷ bs) f l e = ap (λ found. pieces_by at (b ∷ bs) found (λ i. pieces (i - 1) (at + 1) bs)) e

pub pieces-end : (at : ℕ) → pieces 0 at [] ≡ p.end
unfolding pieces
pieces-end at = refl

-- a piece that doesn't end a statement
lines-piece : (d : Drafted) (kind : PieceKind) (at : ℕ) (bytes : List ℕ) (more : p.Pieces) → (kind ≡ k.Semicolon → ⊥) → drafted_lines d (p.piece kind at bytes more) ≡ drafted_by (with_piece kind at bytes d) (λ e. drafted_lines e more)
unfolding drafted_lines
lines-piece d k.Semicolon at bytes more n = absurd (n refl)
lines-piece d k.Blank at bytes more n = refl
lines-piece d k.Constant at bytes more n = refl
lines-piece d k.QuotedName at bytes more n = refl
lines-piece d k.Parameter at bytes more n = refl
lines-piece d k.Word at bytes more n = refl
lines-piece d k.Byte at bytes more n = refl

-- ---- where the text stands

-- the pieces from a place on, as what they are there
abbrev pub left_from : Scope → ℕ → List ℕ → p.Pieces
left_from scope at text = scoped scope (pieces 0 at (drop at text))

no-semicolon : (b : Bool) → cond b k.Blank k.Byte ≡ k.Semicolon → ⊥
no-semicolon true e = absurd cc
no-semicolon false e = absurd cc

-- what ends a statement stands outside of actions, and so does what follows
pub ends-outside : (scope : Scope) (kind : PieceKind) (bytes : List ℕ) → kind_in scope kind bytes ≡ k.Semicolon → scope_after scope kind bytes ≡ Outside
ends-outside Outside k.Semicolon bytes e = refl
ends-outside BehindThen k.Semicolon bytes e = refl
ends-outside (InActions zero) k.Semicolon bytes e = absurd cc
ends-outside (InActions (suc depth)) k.Semicolon bytes e = absurd cc
ends-outside Outside k.Byte bytes e = absurd cc
ends-outside BehindThen k.Byte bytes e = absurd (no-semicolon (is_byte 40 bytes) e)
ends-outside (InActions zero) k.Byte bytes e = absurd (no-semicolon (is_byte 41 bytes) e)
ends-outside (InActions (suc depth)) k.Byte bytes e = absurd cc
ends-outside Outside k.Blank bytes e = absurd cc
ends-outside BehindThen k.Blank bytes e = absurd cc
ends-outside (InActions zero) k.Blank bytes e = absurd cc
ends-outside (InActions (suc depth)) k.Blank bytes e = absurd cc
ends-outside Outside k.Constant bytes e = absurd cc
ends-outside BehindThen k.Constant bytes e = absurd cc
ends-outside (InActions zero) k.Constant bytes e = absurd cc
ends-outside (InActions (suc depth)) k.Constant bytes e = absurd cc
ends-outside Outside k.QuotedName bytes e = absurd cc
ends-outside BehindThen k.QuotedName bytes e = absurd cc
ends-outside (InActions zero) k.QuotedName bytes e = absurd cc
ends-outside (InActions (suc depth)) k.QuotedName bytes e = absurd cc
ends-outside Outside k.Parameter bytes e = absurd cc
ends-outside BehindThen k.Parameter bytes e = absurd cc
ends-outside (InActions zero) k.Parameter bytes e = absurd cc
ends-outside (InActions (suc depth)) k.Parameter bytes e = absurd cc
ends-outside Outside k.Word bytes e = absurd cc
ends-outside BehindThen k.Word bytes e = absurd cc
ends-outside (InActions zero) k.Word bytes e = absurd cc
ends-outside (InActions (suc depth)) k.Word bytes e = absurd cc

-- the piece at a place, as the code finds it
pub record IsHere (text rest : List ℕ) (at : ℕ) (kind : PieceKind) (len : ℕ) : Type 0 where
  pub rest-is : rest ≡ drop at text
  pub some : 0 < length rest
  pub long : 1 ≤ len
  pub found : piece_at rest ≡ Ok (kind, len)

here-is : (text rest : List ℕ) (scope : Scope) (at : ℕ) (kind : PieceKind) (len : ℕ) → IsHere text rest at kind len
    → left_from scope at text ≡ p.piece (kind_in scope kind (take len rest)) at (take len rest) (left_from (scope_after scope kind (take len rest)) (at + len) text)
unfolding scoped
here-is text rest scope at kind len h =
    let e : drop len rest ≡ drop (at + len) text = ap (drop len) h.rest-is ∙ drop-drop len at text in
    let piece : pieces 0 at (drop at text) ≡ p.piece kind at (take len rest) (pieces 0 (at + len) (drop (at + len) text)) =
    ap (pieces 0 at) (sym h.rest-is) ∙ (pieces-found at rest kind len h.some h.long h.found ∙ ap (λ bs. p.piece kind at (take len rest) (pieces 0 (at + len) bs)) e) in
    ap (scoped scope) piece

pub goes_on : (text rest : List ℕ) (scope : Scope) (at : ℕ) (kind : PieceKind) (len : ℕ) (d e : Drafted) (whole : Lines) → IsHere text rest at kind len → (kind_in scope kind (take len rest) ≡ k.Semicolon → ⊥) → with_piece (kind_in scope kind (take len rest)) at (take len rest) d ≡ Ok e
    → drafted_lines d (left_from scope at text) ≡ whole → drafted_lines e (left_from (scope_after scope kind (take len rest)) (at + len) text) ≡ whole
goes_on text rest scope at kind len d e whole h n w so_far =
    let more = left_from (scope_after scope kind (take len rest)) (at + len) text in
    let here = ap (drafted_lines d) (here-is text rest scope at kind len h) ∙ lines-piece d (kind_in scope kind (take len rest)) at (take len rest) more n in
    let made : drafted_by (with_piece (kind_in scope kind (take len rest)) at (take len rest) d) (λ f. drafted_lines f more) ≡ drafted_lines e more = rw w refl in
    sym made ∙ (sym here ∙ so_far)

is_refused : (text rest : List ℕ) (scope : Scope) (at : ℕ) (kind : PieceKind) (len : ℕ) (d : Drafted) (r : Refusal) (whole : Lines) → IsHere text rest at kind len → (kind_in scope kind (take len rest) ≡ k.Semicolon → ⊥) → with_piece (kind_in scope kind (take len rest)) at (take len rest) d ≡ Err r
    → drafted_lines d (left_from scope at text) ≡ whole → whole ≡ refused r
is_refused text rest scope at kind len d r whole h n w so_far =
    let more = left_from (scope_after scope kind (take len rest)) (at + len) text in
    let here = ap (drafted_lines d) (here-is text rest scope at kind len h) ∙ lines-piece d (kind_in scope kind (take len rest)) at (take len rest) more n in
    let made : drafted_by (with_piece (kind_in scope kind (take len rest)) at (take len rest) d) (λ f. drafted_lines f more) ≡ refused r = rw w refl in
    sym so_far ∙ (here ∙ made)

pub is_faulty : (text rest : List ℕ) (scope : Scope) (at : ℕ) (d : Drafted) (f : Fault) (whole : Lines) → rest ≡ drop at text → 0 < length rest → piece_at rest ≡ Err f
    → drafted_lines d (left_from scope at text) ≡ whole → whole ≡ refused (refusal f at)
unfolding drafted_lines scoped
is_faulty text rest scope at d f whole is l e so_far =
    sym so_far ∙ ap (λ ps. drafted_lines d (scoped scope ps)) (ap (pieces 0 at) (sym is) ∙ pieces-fault at rest f l e)

-- a `;`
cut-is : (kind : PieceKind) (at : ℕ) (bytes : List ℕ) (d : Drafted) (more : p.Pieces) → kind ≡ k.Semicolon → drafted_lines d (p.piece kind at bytes more) ≡ drafted_closed d (drafted_lines nothing more)
unfolding drafted_lines
cut-is kind at bytes d more e = ap (λ x. drafted_lines d (p.piece x at bytes more)) e

lines-cut : (text rest : List ℕ) (scope : Scope) (at : ℕ) (kind : PieceKind) (len : ℕ) (d : Drafted) → IsHere text rest at kind len → kind_in scope kind (take len rest) ≡ k.Semicolon
    → drafted_lines d (left_from scope at text) ≡ drafted_closed d (drafted_lines nothing (left_from Outside (at + len) text))
lines-cut text rest scope at kind len d h e =
    ap (drafted_lines d) (here-is text rest scope at kind len h)
    ∙ (cut-is (kind_in scope kind (take len rest)) at (take len rest) d (left_from (scope_after scope kind (take len rest)) (at + len) text) e
    ∙ ap (λ s. drafted_closed d (drafted_lines nothing (left_from s (at + len) text))) (ends-outside scope kind (take len rest) e))

pub ends_line : (text rest : List ℕ) (scope : Scope) (at : ℕ) (kind : PieceKind) (len : ℕ) (d : Drafted) (whole : Lines) → IsHere text rest at kind len → kind_in scope kind (take len rest) ≡ k.Semicolon → (length d.bytes ≡ 0 → ⊥)
    → drafted_lines d (left_from scope at text) ≡ whole → whole ≡ line d.bytes d.origins (drafted_lines nothing (left_from Outside (at + len) text))
ends_line text rest scope at kind len d whole h e n so_far =
    let more = drafted_lines nothing (left_from Outside (at + len) text) in
    let c : drafted_closed d more ≡ line d.bytes d.origins more = rw (ne_eqb (length d.bytes) 0 n) refl in
    sym so_far ∙ (lines-cut text rest scope at kind len d h e ∙ c)

pub leaves_out : (text rest : List ℕ) (scope : Scope) (at : ℕ) (kind : PieceKind) (len : ℕ) (d : Drafted) (whole : Lines) → IsHere text rest at kind len → kind_in scope kind (take len rest) ≡ k.Semicolon → length d.bytes ≡ 0
    → drafted_lines d (left_from scope at text) ≡ whole → drafted_lines nothing (left_from (scope_after scope kind (take len rest)) (at + len) text) ≡ whole
leaves_out text rest scope at kind len d whole h e n so_far =
    let more = drafted_lines nothing (left_from Outside (at + len) text) in
    let c : drafted_closed d more ≡ more = rw n refl in
    ap (λ s. drafted_lines nothing (left_from s (at + len) text)) (ends-outside scope kind (take len rest) e) ∙ (sym c ∙ (sym (lines-cut text rest scope at kind len d h e) ∙ so_far))

-- the end of the text
pub lines-end : (text : List ℕ) (scope : Scope) (at : ℕ) (d : Drafted) → length text ≤ at → drafted_lines d (left_from scope at text) ≡ drafted_closed d end
unfolding drafted_lines scoped
lines-end text scope at d l = ap (λ ps. drafted_lines d (scoped scope ps)) (ap (pieces 0 at) (drop_all at text l) ∙ pieces-end at)

pub ends_last : (text : List ℕ) (scope : Scope) (at : ℕ) (d : Drafted) (whole : Lines) → length text ≤ at → (length d.bytes ≡ 0 → ⊥) → drafted_lines d (left_from scope at text) ≡ whole
    → whole ≡ line d.bytes d.origins (drafted_lines nothing (left_from Outside at text))
ends_last text scope at d whole l n so_far =
    let c : drafted_closed d end ≡ line d.bytes d.origins end = rw (ne_eqb (length d.bytes) 0 n) refl in
    let e : drafted_lines nothing (left_from Outside at text) ≡ end = lines-end text Outside at nothing l in
    sym so_far ∙ (lines-end text scope at d l ∙ (c ∙ ap (line d.bytes d.origins) (sym e)))

pub is_done : (text : List ℕ) (scope : Scope) (at : ℕ) (d : Drafted) (whole : Lines) → length text ≤ at → length d.bytes ≡ 0 → drafted_lines d (left_from scope at text) ≡ whole → whole ≡ end
is_done text scope at d whole l n so_far =
    let c : drafted_closed d end ≡ end = rw n refl in
    sym so_far ∙ (lines-end text scope at d l ∙ c)

-- ---- what is returned; the rest of the text is as the code slices it

rest-some : (text : List ℕ) (at : ℕ) → at < length text → 0 < length (take (length text - at) (drop at text))
rest-some text at l = rw (take_rest text at) (omega (arith, length-drop at text))

pub here : (text : List ℕ) (at : ℕ) (kind : PieceKind) (len : ℕ) → at < length text → 1 ≤ len → piece_at (take (length text - at) (drop at text)) ≡ Ok (kind, len)
    → IsHere text (take (length text - at) (drop at text)) at kind len
here text at kind len l m e = record { rest-is = take_rest text at; some = rest-some text at l; long = m; found = e }

pub no_piece : (text : List ℕ) (scope : Scope) (at : ℕ) (d : Drafted) (e : QueryError) (whole : Lines) → at < length text → IsFound (piece_at (take (length text - at) (drop at text))) at (Err e)
    → drafted_lines d (left_from scope at text) ≡ whole → IsFirst whole text (Err e)
no_piece text scope at d errors.Memory whole l h so_far = tt
no_piece text scope at d (errors.Refused r) whole l h so_far =
    is_faulty text (take (length text - at) (drop at text)) scope at d r.fault whole (take_rest text at) (rest-some text at l) h.0 so_far ∙ ap (λ n. refused (refusal r.fault n)) (sym h.1)

pub no_place : (text rest : List ℕ) (scope : Scope) (at : ℕ) (kind : PieceKind) (len : ℕ) (d new : Drafted) (e : QueryError) (whole : Lines) → IsHere text rest at kind len → (kind_in scope kind (take len rest) ≡ k.Semicolon → ⊥)
    → Makes (with_piece (kind_in scope kind (take len rest)) at (take len rest) d) new (Err e) → drafted_lines d (left_from scope at text) ≡ whole → IsFirst whole text (Err e)
no_place text rest scope at kind len d new errors.Memory whole h n made so_far = tt
no_place text rest scope at kind len d new (errors.Refused r) whole h n made so_far = is_refused text rest scope at kind len d r whole h n made so_far
