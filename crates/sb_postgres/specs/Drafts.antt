-- Machine: the lines of a text, put together piece by piece.
use Rattle.std.specs.Prelude.{ℕ, zero, suc, ◌+◌, ◌-◌, ◌==◌, nat_le, if◌then◌else◌, List, [], ◌∷◌, ◌++◌, length, map, Option, Some, None, Result, Ok, Err}
use Rattle.sb_postgres.specs.declared.query.error.Fault.TheVariants as fault
use Rattle.sb_postgres.specs.declared.query.error.Refusal.{Refusal}
use Rattle.sb_postgres.specs.declared.query.piece.PieceKind.{PieceKind}
use Rattle.sb_postgres.specs.declared.query.piece.PieceKind.TheVariants as k
use Rattle.sb_postgres.specs.Lines.{line_limit, refusal, shown, unprintable, inside, is_name, Lines, end, refused, line}
use Rattle.sb_postgres.specs.Pieces as pieces

-- so many places one behind the other
abbrev pub places : ℕ → ℕ → List ℕ
places at zero = []
places at (suc n) = at ∷ places (at + 1) n

-- ---- a line as far as it has come

-- its bytes, the place of each in the text, and where the blanks behind it begin
pub record Drafted : Type 0 where
  pub bytes : List ℕ
  pub origins : List ℕ
  pub gap : Option ℕ

abbrev pub nothing : Drafted
nothing = record { bytes = []; origins = []; gap = None }

-- blanks count behind a byte, and of several the first
abbrev pub first_gap : ℕ → Option ℕ → Option ℕ
first_gap at None = Some at
first_gap at (Some g) = Some g

abbrev pub with_gap : ℕ → Drafted → Drafted
with_gap at d = if length d.bytes == 0 then d else record d { gap = first_gap at d.gap }

-- before the next byte they are one space
abbrev pub spaced_by : Drafted → Option ℕ → Drafted
spaced_by d None = d
spaced_by d (Some g) = record { bytes = d.bytes ++ 32 ∷ []; origins = d.origins ++ g ∷ []; gap = None }

abbrev pub spaced : Drafted → Drafted
spaced d = spaced_by d d.gap

-- these bytes, the first of which stands at this place
abbrev pub with_bytes : ℕ → List ℕ → Drafted → Drafted
with_bytes at bs d = record { bytes = (spaced d).bytes ++ bs; origins = (spaced d).origins ++ places at (length bs); gap = None }

abbrev pub limited : ℕ → Drafted → Result Drafted Refusal
limited at d = if nat_le (length d.bytes) line_limit then Ok d else Err (refusal fault.TooLong at)

-- ---- pieces in a line

abbrev pub with_text : PieceKind → ℕ → List ℕ → Drafted → Option ℕ → Result Drafted Refusal
with_text kind at bytes d None = limited at (with_bytes at (map (shown kind) bytes) d)
with_text kind at bytes d (Some place) = Err (refusal fault.Unprintable place)

abbrev pub with_gap_behind : ℕ → Result Drafted Refusal → Result Drafted Refusal
with_gap_behind at (Ok d) = Ok (with_gap at d)
with_gap_behind at (Err r) = Err r

-- a name stands without its quotes, which count as blanks
abbrev pub with_name : ℕ → List ℕ → Drafted → Result Drafted Refusal
with_name at bytes d =
    if is_name (inside bytes) then with_gap_behind (at + length bytes - 1) (limited at (with_bytes (at + 1) (map (shown k.QuotedName) (inside bytes)) (with_gap at d))) else Err (refusal fault.Name at)

abbrev pub with_piece : PieceKind → ℕ → List ℕ → Drafted → Result Drafted Refusal
with_piece k.Blank at bytes d = Ok (with_gap at d)
with_piece k.QuotedName at bytes d = with_name at bytes d
with_piece kind at bytes d = with_text kind at bytes d (unprintable at bytes)

-- ---- whole texts

-- a line ends here, if there is one
abbrev pub drafted_closed : Drafted → Lines → Lines
drafted_closed d more = if length d.bytes == 0 then more else line d.bytes d.origins more

abbrev pub drafted_by : Result Drafted Refusal → (Drafted → Lines) → Lines
drafted_by (Ok d) more = more d
drafted_by (Err r) more = refused r

unfoldable pub drafted_lines : Drafted → pieces.Pieces → Lines
drafted_lines d pieces.end = drafted_closed d end
drafted_lines d (pieces.refused f at) = refused (refusal f at)
drafted_lines d (pieces.piece k.Semicolon at bytes more) = drafted_closed d (drafted_lines nothing more)
drafted_lines d (pieces.piece kind at bytes more) = drafted_by (with_piece kind at bytes d) (λ e. drafted_lines e more)
