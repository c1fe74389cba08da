-- Each text has its pieces, and no others.
use Rattle.std.proofs.Common.{◌≡◌, ◌≤◌, ◌<◌, ◌+◌, ℕ, zero, suc, List, [], ◌∷◌, ◌++◌, length, drop, take, Option, Some, None, Result, Ok, Err, refl, ap, sym, ◌∙◌, subst, drop_at, take_at, length-append, arith}
use Rattle.std.proofs.lemmas.List.{take-append-drop, length-take-le, length-drop}
use Rattle.sb_postgres.specs.declared.query.actions.Scope.TheVariants.{Outside}
use Rattle.sb_postgres.specs.declared.query.error.Fault.{Fault}
use Rattle.sb_postgres.specs.declared.query.error.QueryError.{QueryError}
use Rattle.sb_postgres.specs.declared.query.error.QueryError.TheVariants as errors
use Rattle.sb_postgres.specs.declared.query.error.Refusal.{Refusal}
use Rattle.sb_postgres.specs.declared.query.statement.Statement.{Statement}
use Rattle.sb_postgres.specs.declared.query.statements.Statements.{Statements}
use Rattle.sb_postgres.specs.Actions.{scoped}
use Rattle.sb_postgres.specs.Drafts.{drafted_lines, nothing}
use Rattle.sb_postgres.specs.Lines.{Lines, end, line, ending}
use Rattle.sb_postgres.specs.Pieces as p
use Rattle.sb_postgres.specs.Pieces.{IsPiece, IsFault, Pieces, HasPieces}
use Rattle.sb_postgres.specs.Cutting.{IsFirst, lines_from}
use Rattle.sb_postgres.specs.Statements.{HasLines, IsNext, EndsAs}
use Rattle.sb_postgres.specs.Scan.{Found, piece_at, pieces}
use Rattle.sb_postgres.proofs.Found.{Sound, piece-sound}
use Rattle.sb_postgres.proofs.Again.{piece-again, piece-some, fault-again}
use Rattle.sb_postgres.proofs.Marks.{lines-drafted, pieces-some, scoped-some}
use Rattle.sb_postgres.proofs.Turns.{pieces-end, pieces-fault, pieces-found, lines-end}

found-to : (n at : ℕ) (text : List ℕ) → length text ≤ n → HasPieces at text (pieces 0 at text)
found-to n at [] le = subst (HasPieces at []) (sym (pieces-end at)) p.end_of_text
found-to zero at (b ∷ bs) le = absurd (omega arith)
found-to (suc n) at (b ∷ bs) le = go (piece_at (b ∷ bs)) refl (piece-sound b bs) (found-to n)
  where
    go : (r : Found) → piece_at (b ∷ bs) ≡ r → Sound r (b ∷ bs) → ((at : ℕ) (text : List ℕ) → length text ≤ n → HasPieces at text (pieces 0 at text)) → HasPieces at (b ∷ bs) (pieces 0 at (b ∷ bs))
    go (Err f) e h rec = subst (HasPieces at (b ∷ bs)) (sym (pieces-fault at (b ∷ bs) f (omega arith) e)) (p.no_piece h)
    go (Ok q) e h rec =
        let long : 1 ≤ q.1 = h.1 in
        let rest : List ℕ = drop q.1 (b ∷ bs) in
        let more : HasPieces (at + q.1) (drop q.1 (b ∷ bs)) (pieces 0 (at + q.1) (drop q.1 (b ∷ bs))) = rec (at + q.1) (drop q.1 (b ∷ bs)) (omega (arith, length-drop q.1 (b ∷ bs))) in
        let front : length (take q.1 (b ∷ bs)) ≡ q.1 = length-take-le q.1 (b ∷ bs) h.2 in
        subst (HasPieces at (b ∷ bs)) (sym (pieces-found at (b ∷ bs) q.0 q.1 (omega arith) h.1 e))
        (p.first h.0 (sym (take-append-drop q.1 (b ∷ bs))) (subst (λ (i : ℕ). HasPieces (at + i) (drop q.1 (b ∷ bs)) (pieces 0 (at + q.1) (drop q.1 (b ∷ bs)))) (sym front) more))

pub pieces-are : (at : ℕ) (text : List ℕ) → HasPieces at text (pieces 0 at text)
pieces-are at text = found-to (length text) at text (omega arith)

fault-some : (f : Fault) (text : List ℕ) → IsFault f text → 0 < length text
unfolding piece_at
fault-some f [] h = absurd (let e = fault-again f [] h in cc)
fault-some f (b ∷ bs) h = omega arith

pub pieces-only : (at : ℕ) (text : List ℕ) (ps : Pieces) → HasPieces at text ps → ps ≡ pieces 0 at text
pieces-only at text ps p.end_of_text = sym (pieces-end at)
pieces-only at text ps (p.no_piece {f = f} h) = sym (pieces-fault at text f (fault-some f text h) (fault-again f text h))
pieces-only at text ps (p.first {kind = kind} {bytes = bytes} {rest = rest} {more = more} h is m) =
    let rec : more ≡ pieces 0 (at + length bytes) rest = pieces-only (at + length bytes) rest more m in
    let some : 1 ≤ length bytes = piece-some kind bytes rest h in
    let here = pieces-found at (bytes ++ rest) kind (length bytes) (omega (arith, length-append bytes rest)) some (piece-again kind bytes rest h) in
    let front : take (length bytes) (bytes ++ rest) ≡ bytes = take_at bytes rest (length bytes) refl in
    let back : drop (length bytes) (bytes ++ rest) ≡ rest = drop_at bytes rest (length bytes) refl in
    let all : pieces 0 at (bytes ++ rest) ≡ p.piece kind at bytes (pieces 0 (at + length bytes) rest) =
    here ∙ (ap (λ bs. p.piece kind at bs (pieces 0 (at + length bytes) (drop (length bytes) (bytes ++ rest)))) front ∙ ap (λ bs. p.piece kind at bytes (pieces 0 (at + length bytes) bs)) back) in
    ap (p.piece kind at bytes) rec ∙ (sym all ∙ ap (pieces 0 at) (sym is))

-- ---- the lines of a text

pub lines-are : (at : ℕ) (text : List ℕ) → HasLines at text (lines_from at text)
lines-are at text =
    let has = pieces-are at (drop at text) in
    (pieces 0 at (drop at text), (has, sym (lines-drafted (scoped Outside (pieces 0 at (drop at text))) (scoped-some Outside (pieces 0 at (drop at text)) (pieces-some at (drop at text) (pieces 0 at (drop at text)) has)) [] (omega arith))))

pub lines-only : (at : ℕ) (text : List ℕ) (ls : Lines) → HasLines at text ls → ls ≡ lines_from at text
lines-only at text ls h =
    h.1.1 ∙ (lines-drafted (scoped Outside h.0) (scoped-some Outside h.0 (pieces-some at (drop at text) h.0 h.1.0)) [] (omega arith) ∙ ap (λ ps. drafted_lines nothing (scoped Outside ps)) (pieces-only at (drop at text) h.0 h.1.0))

pub lines-same : (at : ℕ) (text : List ℕ) (ls ms : Lines) → HasLines at text ls → HasLines at text ms → ls ≡ ms
lines-same at text ls ms h g = lines-only at text ls h ∙ sym (lines-only at text ms g)

-- ---- what is returned

pub none_left : (at : ℕ) (text : List ℕ) (o : Option (Statement × ℕ)) (ls : Lines) → IsFirst (lines_from at text) text (Ok o) → o ≡ None → HasLines at text ls → ls ≡ end
none_left at text o ls f is h = lines-only at text ls h ∙ subst (λ (x : Option (Statement × ℕ)). IsFirst (lines_from at text) text (Ok x)) is f

pub one_less : (at : ℕ) (text : List ℕ) (o : Option (Statement × ℕ)) (s : Statement × ℕ) (ls : Lines) → IsFirst (lines_from at text) text (Ok o) → o ≡ Some s → HasLines at text ls
    → (more : Lines) × (HasLines s.1 text more × (ls ≡ line s.0.line.items s.0.origins.items more))
one_less at text o s ls f is h =
    (lines_from s.1 text, (lines-are s.1 text, lines-only at text ls h ∙ subst (λ (x : Option (Statement × ℕ)). IsFirst (lines_from at text) text (Ok x)) is f))

pub is_told : (at : ℕ) (text : List ℕ) (left : Statements) (e : QueryError) (ls : Lines) → IsFirst (lines_from at text) text (Err e) → HasLines at text ls → IsNext ls left (Err e)
is_told at text left errors.Memory ls f h = tt
is_told at text left (errors.Refused r) ls f h = lines-only at text ls h ∙ f

-- ---- a whole text

pub ends_as : (at : ℕ) (text : List ℕ) (r : Result (Unit {0}) QueryError) (ls : Lines) → EndsAs (lines_from at text) r → HasLines at text ls → EndsAs ls r
ends_as at text r ls e h = subst (λ (ms : Lines). EndsAs ms r) (sym (lines-only at text ls h)) e

pub ends_at_all : (at : ℕ) (text : List ℕ) (whole : Option Refusal) → length text ≤ at → ending (lines_from at text) ≡ whole → whole ≡ None
ends_at_all at text whole l so_far = sym so_far ∙ ap ending (lines-end text Outside at nothing l)
