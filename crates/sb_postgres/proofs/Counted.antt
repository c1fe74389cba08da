-- How many values a line wants, piece by piece.
use Rattle.std.proofs.Common.{◌≡◌, ◌≤◌, ◌<◌, ◌+◌, ◌-◌, ℕ, List, length, take, drop, Result, Ok, Err, refl, ap, sym, ◌∙◌, arith}
use Rattle.std.proofs.lemmas.Bool.Decides.{nat_tests}
use Rattle.std.proofs.lemmas.List.{drop_all, take_rest, length-drop}
use Rattle.sb_postgres.specs.declared.query.error.Fault.{Fault}
use Rattle.sb_postgres.specs.declared.query.piece.PieceKind.{PieceKind}
use Rattle.sb_postgres.specs.declared.query.template.FillError.{FillError}
use Rattle.sb_postgres.specs.declared.query.template.FillError.TheVariants as error
use Rattle.sb_postgres.specs.Lines.{refusal}
use Rattle.sb_postgres.specs.Pieces as p
use Rattle.sb_postgres.specs.Scan.{piece_at, pieces}
use Rattle.sb_postgres.specs.Templates.{Counts, number_at, higher, higher_of, highest}
use Rattle.sb_postgres.proofs.FillTurns.{piece-here}
use Rattle.sb_postgres.proofs.Grammar.{pieces-are}
use Rattle.sb_postgres.proofs.Turns.{IsHere, pieces-fault, pieces-end}

higher-zero : (n : ℕ) → higher_of n 0 ≡ n
higher-zero n = grind (arith, nat_tests)

zero-higher : (n : ℕ) → higher_of 0 n ≡ n
zero-higher n = grind (arith, nat_tests)

higher-behind : (n m k : ℕ) → higher_of n (higher_of m k) ≡ higher_of (higher_of n m) k
higher-behind n m k = grind (arith, nat_tests)

higher-higher : (n m : ℕ) (r : Result ℕ FillError) → higher (Ok n) (higher (Ok m) r) ≡ higher (Ok (higher_of n m)) r
higher-higher n m (Ok k) = ap Ok (higher-behind n m k)
higher-higher n m (Err e) = refl

pub none_yet : (r : Result ℕ FillError) → higher (Ok 0) r ≡ r
none_yet (Ok n) = ap Ok (zero-higher n)
none_yet (Err e) = refl

highest-here : (line rest : List ℕ) (at : ℕ) (kind : PieceKind) (len : ℕ) → IsHere line rest at kind len
    → highest (pieces 0 at (drop at line)) ≡ higher (number_at kind at (take len rest)) (highest (pieces 0 (at + len) (drop (at + len) line)))
unfolding highest
highest-here line rest at kind len h = ap highest (piece-here line rest at kind len h)

pub counts_on : (line rest : List ℕ) (at : ℕ) (kind : PieceKind) (len n m : ℕ) (whole : Result ℕ FillError) → IsHere line rest at kind len → number_at kind at (take len rest) ≡ Ok m
    → higher (Ok n) (highest (pieces 0 at (drop at line))) ≡ whole → higher (Ok (higher_of n m)) (highest (pieces 0 (at + len) (drop (at + len) line))) ≡ whole
counts_on line rest at kind len n m whole h is so_far =
    let more = highest (pieces 0 (at + len) (drop (at + len) line)) in
    let here : higher (Ok n) (highest (pieces 0 at (drop at line))) ≡ higher (Ok n) (higher (Ok m) more) =
    ap (higher (Ok n)) (highest-here line rest at kind len h ∙ ap (λ (r : Result ℕ FillError). higher r more) is) in
    sym (higher-higher n m more) ∙ (sym here ∙ so_far)

counted : (line : List ℕ) (r : Result ℕ FillError) → highest (pieces 0 0 line) ≡ r → Counts line r
counted line r e = (pieces 0 0 line, pieces-are 0 line, e)

-- a parameter that has no number
pub counts_none : (line rest : List ℕ) (at : ℕ) (kind : PieceKind) (len n : ℕ) (e : FillError) → IsHere line rest at kind len → number_at kind at (take len rest) ≡ Err e
    → higher (Ok n) (highest (pieces 0 at (drop at line))) ≡ highest (pieces 0 0 line) → Counts line (Err e)
counts_none line rest at kind len n e h is so_far =
    let more = highest (pieces 0 (at + len) (drop (at + len) line)) in
    counted line (Err e) (sym so_far ∙ ap (higher (Ok n)) (highest-here line rest at kind len h ∙ ap (λ (r : Result ℕ FillError). higher r more) is))

-- no piece at a place
pub counts_fault : (line : List ℕ) (at n : ℕ) (f : Fault) → at < length line → piece_at (take (length line - at) (drop at line)) ≡ Err f
    → higher (Ok n) (highest (pieces 0 at (drop at line))) ≡ highest (pieces 0 0 line) → Counts line (Err (error.Refused (refusal f at)))
unfolding highest
counts_fault line at n f l is so_far =
    let rest : take (length line - at) (drop at line) ≡ drop at line = take_rest line at in
    let e : piece_at (drop at line) ≡ Err f = ap piece_at (sym rest) ∙ is in
    counted line (Err (error.Refused (refusal f at))) (sym so_far ∙ ap (λ (ps : p.Pieces). higher (Ok n) (highest ps)) (pieces-fault at (drop at line) f (omega (arith, length-drop at line)) e))

pub counts_all : (line : List ℕ) (at n : ℕ) → length line ≤ at → higher (Ok n) (highest (pieces 0 at (drop at line))) ≡ highest (pieces 0 0 line) → Counts line (Ok n)
unfolding highest
counts_all line at n l so_far =
    let e : pieces 0 at (drop at line) ≡ p.end = ap (pieces 0 at) (drop_all at line l) ∙ pieces-end at in
    counted line (Ok n) (sym so_far ∙ (ap (λ (ps : p.Pieces). higher (Ok n) (highest ps)) e ∙ ap Ok (higher-zero n)))
