-- One step of putting values into a line: what is made so far and what is left.
use Rattle.std.proofs.Common.{◌≡◌, ◌≤◌, ◌<◌, ◌+◌, ◌-◌, ℕ, List, [], ◌++◌, length, take, drop, Result, Ok, Err, refl, ap, sym, ◌∙◌, subst, append_assoc, arith}
use Rattle.std.proofs.lemmas.Grind.{flat_map-append}
use Rattle.std.proofs.lemmas.List.{append-nil, drop-drop, drop_all, take_rest, length-drop}
use Rattle.sb_value.specs.declared.value.Value.{Value}
use Rattle.sb_postgres.specs.declared.query.error.Fault.{Fault}
use Rattle.sb_postgres.specs.declared.query.piece.PieceKind.{PieceKind}
use Rattle.sb_postgres.specs.declared.query.template.FillError.{FillError}
use Rattle.sb_postgres.specs.declared.query.template.FillError.TheVariants as error
use Rattle.sb_postgres.specs.Filling.{with_text}
use Rattle.sb_postgres.specs.Lines.{refusal}
use Rattle.sb_postgres.specs.Pieces as p
use Rattle.sb_postgres.specs.Scan.{piece_at, pieces}
use Rattle.sb_postgres.specs.Templates.{Cut, IsCut, HasFilled, text_of, part, joined, filled}
use Rattle.sb_postgres.proofs.Filled.{filled-goes}
use Rattle.sb_postgres.proofs.Grammar.{pieces-are}
use Rattle.sb_postgres.proofs.Turns.{IsHere, pieces-found, pieces-fault, pieces-end}

-- the line with values from a place on
abbrev pub left_from : List Value → ℕ → List ℕ → Result Cut FillError
left_from values at line = filled values (pieces 0 at (drop at line))

pub piece-here : (line rest : List ℕ) (at : ℕ) (kind : PieceKind) (len : ℕ) → IsHere line rest at kind len
    → pieces 0 at (drop at line) ≡ p.piece kind at (take len rest) (pieces 0 (at + len) (drop (at + len) line))
piece-here line rest at kind len h =
    let e : drop len rest ≡ drop (at + len) line = ap (drop len) h.rest-is ∙ drop-drop len at line in
    ap (pieces 0 at) (sym h.rest-is) ∙ (pieces-found at rest kind len h.some h.long h.found ∙ ap (λ bs. p.piece kind at (take len rest) (pieces 0 (at + len) bs)) e)

left-here : (values : List Value) (line rest : List ℕ) (at : ℕ) (kind : PieceKind) (len : ℕ) → IsHere line rest at kind len
    → left_from values at line ≡ joined (part values kind at (take len rest)) (left_from values (at + len) line)
unfolding filled
left-here values line rest at kind len h = ap (filled values) (piece-here line rest at kind len h)

joined-text : (front : List ℕ) (cs : Cut) (r : Result Cut FillError) → with_text front (joined (Ok cs) r) ≡ with_text (front ++ text_of cs) r
joined-text front cs (Ok ds) = ap Ok (ap (λ xs. front ++ xs) (flat_map-append (λ (c : PieceKind × List ℕ). c.1) cs ds) ∙ sym (append_assoc front (text_of cs) (text_of ds)))
joined-text front cs (Err e) = refl

pub goes_on : (values : List Value) (line rest front new : List ℕ) (at : ℕ) (kind : PieceKind) (len : ℕ) (whole : Result (List ℕ) FillError) → IsHere line rest at kind len
    → ((cs : Cut) × (part values kind at (take len rest) ≡ Ok cs) × (new ≡ front ++ text_of cs))
    → with_text front (left_from values at line) ≡ whole → with_text new (left_from values (at + len) line) ≡ whole
goes_on values line rest front new at kind len whole h made so_far =
    let more = left_from values (at + len) line in
    let here : with_text front (left_from values at line) ≡ with_text front (joined (Ok made.0) more) =
    ap (with_text front) (left-here values line rest at kind len h ∙ ap (λ r. joined r more) made.1) in
    ap (λ xs. with_text xs more) made.2 ∙ (sym (joined-text front made.0 more) ∙ (sym here ∙ so_far))

pub no_part : (values : List Value) (line rest front : List ℕ) (at : ℕ) (kind : PieceKind) (len : ℕ) (e : FillError) (whole : Result (List ℕ) FillError) → IsHere line rest at kind len
    → part values kind at (take len rest) ≡ Err e → with_text front (left_from values at line) ≡ whole → whole ≡ Err e
no_part values line rest front at kind len e whole h is so_far =
    sym so_far ∙ ap (with_text front) (left-here values line rest at kind len h ∙ ap (λ r. joined r (left_from values (at + len) line)) is)

pub no_piece : (values : List Value) (line front : List ℕ) (at : ℕ) (f : Fault) (whole : Result (List ℕ) FillError) → at < length line → piece_at (take (length line - at) (drop at line)) ≡ Err f
    → with_text front (left_from values at line) ≡ whole → whole ≡ Err (error.Refused (refusal f at))
unfolding filled
no_piece values line front at f whole l is so_far =
    let rest : take (length line - at) (drop at line) ≡ drop at line = take_rest line at in
    let e : piece_at (drop at line) ≡ Err f = ap piece_at (sym rest) ∙ is in
    sym so_far ∙ ap (λ ps. with_text front (filled values ps)) (pieces-fault at (drop at line) f (omega (arith, length-drop at line)) e)

pub is_done : (values : List Value) (line front : List ℕ) (at : ℕ) (whole : Result (List ℕ) FillError) → length line ≤ at → with_text front (left_from values at line) ≡ whole → whole ≡ Ok front
unfolding filled
is_done values line front at whole l so_far =
    let e : pieces 0 at (drop at line) ≡ p.end = ap (pieces 0 at) (drop_all at line l) ∙ pieces-end at in
    sym so_far ∙ (ap (λ ps. with_text front (filled values ps)) e ∙ ap Ok (append-nil front))

-- ---- what is returned

cut-of : (r : Result Cut FillError) (made : List ℕ) → with_text [] r ≡ Ok made → (cs : Cut) × (r ≡ Ok cs) × (text_of cs ≡ made)
cut-of (Ok cs) made e = (cs, refl, cc)
cut-of (Err error) made e = absurd cc

err-of : (r : Result Cut FillError) (e : FillError) → with_text [] r ≡ Err e → r ≡ Err e
err-of (Ok cs) e is = absurd cc
err-of (Err error) e is = cc

pub is_made : (values : List Value) (line made : List ℕ) → with_text [] (filled values (pieces 0 0 line)) ≡ Ok made → (cs : Cut) × HasFilled line values (Ok cs) × IsCut made cs × (text_of cs ≡ made)
is_made values line made e =
    let c = cut-of (filled values (pieces 0 0 line)) made e in
    let has = pieces-are 0 line in
    (c.0, (pieces 0 0 line, has, c.1), subst (λ (xs : List ℕ). IsCut xs c.0) c.2 (filled-goes values 0 line (pieces 0 0 line) c.0 has c.1).0, c.2)

pub is_told : (values : List Value) (line : List ℕ) (e : FillError) → with_text [] (filled values (pieces 0 0 line)) ≡ Err e → HasFilled line values (Err e)
is_told values line e is = (pieces 0 0 line, pieces-are 0 line, err-of (filled values (pieces 0 0 line)) e is)
