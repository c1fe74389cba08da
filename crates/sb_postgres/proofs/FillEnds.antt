-- What is returned of a line with values.
use Rattle.std.proofs.Common.{◌≡◌, ◌≤◌, ◌<◌, ◌-◌, ℕ, List, [], length, take, drop, Result, Ok, Err, sym, subst, Vec, Global}
use Rattle.sb_value.specs.declared.value.Value.{Value}
use Rattle.sb_postgres.specs.declared.query.error.Fault.{Fault}
use Rattle.sb_postgres.specs.declared.query.piece.PieceKind.{PieceKind}
use Rattle.sb_postgres.specs.declared.query.template.FillError.{FillError}
use Rattle.sb_postgres.specs.declared.query.template.FillError.TheVariants as error
use Rattle.sb_postgres.specs.Filling.{Adds, with_text}
use Rattle.sb_postgres.specs.Lines.{line_limit, refusal}
use Rattle.sb_postgres.specs.Scan.{piece_at, pieces}
use Rattle.sb_postgres.specs.Templates.{Fills, part, filled}
use Rattle.sb_postgres.proofs.FillTurns.{left_from, no_part, no_piece, is_done, is_made, is_told}
use Rattle.sb_postgres.proofs.Turns.{IsHere}

abbrev pub whole_of : List Value → List ℕ → Result (List ℕ) FillError
whole_of values line = with_text [] (filled values (pieces 0 0 line))

-- a piece that can't be pushed
pub ends_by_part : (values : List Value) (line rest front new : List ℕ) (at : ℕ) (kind : PieceKind) (len : ℕ) (e : FillError) → IsHere line rest at kind len
    → Adds (part values kind at (take len rest)) front new (Err e) → with_text front (left_from values at line) ≡ whole_of values line → Fills line values (Err e)
ends_by_part values line rest front new at kind len error.Memory h adds so_far = tt
ends_by_part values line rest front new at kind len error.TooLong h adds so_far = absurd adds
ends_by_part values line rest front new at kind len (error.Refused r) h adds so_far = absurd adds
ends_by_part values line rest front new at kind len (error.NoValue place) h adds so_far =
    is_told values line (error.NoValue place) (no_part values line rest front at kind len (error.NoValue place) (whole_of values line) h adds so_far)

-- no piece at a place
pub ends_by_fault : (values : List Value) (line front : List ℕ) (at : ℕ) (f : Fault) → at < length line → piece_at (take (length line - at) (drop at line)) ≡ Err f
    → with_text front (left_from values at line) ≡ whole_of values line → Fills line values (Err (error.Refused (refusal f at)))
ends_by_fault values line front at f l is so_far =
    is_told values line (error.Refused (refusal f at)) (no_piece values line front at f (whole_of values line) l is so_far)

-- behind the last piece
pub ends_long : (values : List Value) (line front : List ℕ) (at : ℕ) → length line ≤ at → line_limit < length front
    → with_text front (left_from values at line) ≡ whole_of values line → Fills line values (Err error.TooLong)
ends_long values line front at l long so_far =
    let made = is_made values line front (is_done values line front at (whole_of values line) l so_far) in
    (made.0, made.1, subst (λ (xs : List ℕ). line_limit < length xs) (sym made.3) long)

pub ends_well : (values : List Value) (line : List ℕ) (made : Vec ℕ Global) (at : ℕ) → length line ≤ at → length made.items ≤ line_limit
    → with_text made.items (left_from values at line) ≡ whole_of values line → Fills line values (Ok made)
ends_well values line made at l short so_far =
    let m = is_made values line made.items (is_done values line made.items at (whole_of values line) l so_far) in
    (m.0, m.1, m.2, short)
