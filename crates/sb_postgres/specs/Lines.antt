-- Promise: the lines that a query's text gives, and where each byte of a line stands in the text.
use Rattle.std.specs.Prelude.{◌≡◌, ◌<◌, ◌≤◌, ℕ, ◌+◌, ◌-◌, Bool, true, false, ◌&&◌, ◌||◌, nat_le, if◌then◌else◌, List, [], ◌∷◌, ◌++◌, length, map, take, drop, Option, Some, None, option_map}
use Rattle.sb_postgres.specs.declared.query.error.Fault.{Fault}
use Rattle.sb_postgres.specs.declared.query.error.Fault.TheVariants as fault
use Rattle.sb_postgres.specs.declared.query.error.Refusal.{Refusal}
use Rattle.sb_postgres.specs.declared.query.piece.PieceKind.{PieceKind}
use Rattle.sb_postgres.specs.declared.query.piece.PieceKind.TheVariants as k
use Rattle.sb_postgres.specs.Bytes.{is_small, is_digit, is_printable, folded, all}
use Rattle.sb_postgres.specs.Pieces as pieces

-- ---- what a piece is in a line

-- a byte of the line and its place in the text, or blanks and the place where they begin
pub data Mark : Type 0 where
  byte : (b at : ℕ) → Mark
  gap : (at : ℕ) → Mark

-- a constant stands as it is, and elsewhere a capital as a small letter
abbrev pub shown : PieceKind → ℕ → ℕ
shown k.Constant b = b
shown kind b = folded b

-- bytes one behind the other
abbrev pub placed : ℕ → List ℕ → List Mark
placed at [] = []
placed at (b ∷ bs) = byte b at ∷ placed (at + 1) bs

-- what is between the quotes
abbrev pub inside : List ℕ → List ℕ
inside bytes = take (length bytes - 2) (drop 1 bytes)

-- a name stands without its quotes, which count as blanks
abbrev pub marks : PieceKind → ℕ → List ℕ → List Mark
marks k.Blank at bytes = gap at ∷ []
marks k.QuotedName at bytes = gap at ∷ placed (at + 1) (map (shown k.QuotedName) (inside bytes)) ++ gap (at + length bytes - 1) ∷ []
marks kind at bytes = placed at (map (shown kind) bytes)

-- ---- what a line is made of

-- the bytes of a line, each with its place in the text
abbrev pub Line : Type 0
Line = List (ℕ × ℕ)

-- what is behind a byte and such blanks: before the next byte blanks are one space, at the place of the first
abbrev pub behind : Option ℕ → List Mark → Line
behind blanks [] = []
behind None (byte b at ∷ ms) = (b, at) ∷ behind None ms
behind (Some first) (byte b at ∷ ms) = (32, first) ∷ (b, at) ∷ behind None ms
behind None (gap at ∷ ms) = behind (Some at) ms
behind (Some first) (gap at ∷ ms) = behind (Some first) ms

-- before the first byte they are nothing
abbrev pub joined : List Mark → Line
joined [] = []
joined (byte b at ∷ ms) = (b, at) ∷ behind None ms
joined (gap at ∷ ms) = joined ms

abbrev pub bytes_of : Line → List ℕ
bytes_of = map (λ c. c.0)

abbrev pub origins_of : Line → List ℕ
origins_of = map (λ c. c.1)

-- ---- what is refused

abbrev pub line_limit : ℕ
line_limit = 4_096

abbrev pub refusal : Fault → ℕ → Refusal
refusal f at = record { fault = f; at = at }

-- the place of the first byte outside printable ASCII
abbrev pub unprintable : ℕ → List ℕ → Option ℕ
unprintable at [] = None
unprintable at (b ∷ bs) = if is_printable b then unprintable (at + 1) bs else Some at

abbrev pub is_name_byte : ℕ → Bool
is_name_byte b = is_small b || is_digit b

abbrev pub is_name : List ℕ → Bool
is_name [] = false
is_name (b ∷ bs) = is_small b && all is_name_byte bs

-- a name that isn't plain, a byte outside printable ASCII
abbrev pub fault_of : PieceKind → ℕ → List ℕ → Option Refusal
fault_of k.Blank at bytes = None
fault_of k.QuotedName at bytes = if is_name (inside bytes) then None else Some (refusal fault.Name at)
fault_of kind at bytes = option_map (refusal fault.Unprintable) (unprintable at bytes)

-- ---- whole texts

-- the lines of a text, up to its end or to what is refused
pub data Lines : Type 0 where
  end : Lines
  refused : (r : Refusal) → Lines
  line : (bytes origins : List ℕ) (more : Lines) → Lines

-- a line ends here, if it has a byte
abbrev pub closed : Line → Lines → Lines
closed [] more = more
closed (c ∷ cs) more = line (bytes_of (c ∷ cs)) (origins_of (c ∷ cs)) more

-- the lines go on behind a piece, unless it is refused or makes its line too long
abbrev pub lines_by : ℕ → Option Refusal → Line → Lines → Lines
lines_by at (Some r) so_far more = refused r
lines_by at None so_far more = if nat_le (length so_far) line_limit then more else refused (refusal fault.TooLong at)

-- each `;` ends a line; the marks are those of its pieces so far, each as what it is where it stands
unfoldable pub lines_of : List Mark → pieces.Pieces → Lines
lines_of ms pieces.end = closed (joined ms) end
lines_of ms (pieces.refused f at) = refused (refusal f at)
lines_of ms (pieces.piece k.Semicolon at bytes more) = closed (joined ms) (lines_of [] more)
lines_of ms (pieces.piece kind at bytes more) = lines_by at (fault_of kind at bytes) (joined (ms ++ marks kind at bytes)) (lines_of (ms ++ marks kind at bytes) more)

-- what ends the lines, where it isn't the end of the text
abbrev pub ending : Lines → Option Refusal
ending end = None
ending (refused r) = Some r
ending (line bytes origins more) = ending more

-- what each line is: some bytes of printable ASCII
abbrev pub IsLine : List ℕ → Type 0
IsLine bytes = (0 < length bytes) × ((length bytes ≤ line_limit) × (all is_printable bytes ≡ true))
