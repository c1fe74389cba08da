-- Promise: the statements of a query's text, one after the other.
use Rattle.std.specs.Prelude.{◌≡◌, ℕ, ◌-◌, List, [], length, drop, Option, Some, None, Result, Ok, Err}
use Rattle.sb_postgres.specs.declared.query.error.QueryError.{QueryError}
use Rattle.sb_postgres.specs.declared.query.error.QueryError.TheVariants as errors
use Rattle.sb_postgres.specs.declared.query.statement.Statement.{Statement}
use Rattle.sb_postgres.specs.declared.query.statements.Statements.{Statements}
use Rattle.sb_postgres.specs.declared.query.actions.Scope.TheVariants.{Outside}
use Rattle.sb_postgres.specs.Actions.{scoped}
use Rattle.sb_postgres.specs.Lines.{Lines, end, refused, line, lines_of, ending}
use Rattle.sb_postgres.specs.Pieces.{Pieces, HasPieces}

-- the text from a place on has these lines
abbrev pub HasLines : ℕ → List ℕ → Lines → Type 0
HasLines at text ls = (ps : Pieces) × (HasPieces at (drop at text) ps × (ls ≡ lines_of [] (scoped Outside ps)))

-- the text, the place from which statements are left, how many bytes are behind it, and the lines of those
abbrev pub text_of : Statements → List ℕ
text_of s = s.text.now

abbrev pub place_of : Statements → ℕ
place_of s = s.at

abbrev pub bytes_left : Statements → ℕ
bytes_left s = length s.text.now - s.at

abbrev pub Leaves : Statements → Lines → Type 0
Leaves s ls = HasLines s.at s.text.now ls

-- of these lines the first is given and the others are left, or there is none, or what ends them is told
abbrev pub IsNext : Lines → Statements → Result (Option Statement) QueryError → Type 0
IsNext all left (Ok (Some s)) = (more : Lines) × (Leaves left more × (all ≡ line s.line.items s.origins.items more))
IsNext all left (Ok None) = all ≡ end
IsNext all left (Err errors.Memory) = Unit {0}
IsNext all left (Err (errors.Refused r)) = all ≡ refused r

-- without a statement nothing changes
abbrev pub Stays : Statements → Statements → Result (Option Statement) QueryError → Type 0
Stays old new (Ok (Some s)) = Unit {0}
Stays old new (Ok None) = place_of new ≡ place_of old
Stays old new (Err e) = place_of new ≡ place_of old

-- all of these lines can be read, or what ends them is told
abbrev pub EndsAs : Lines → Result (Unit {0}) QueryError → Type 0
EndsAs all (Ok _) = ending all ≡ None
EndsAs all (Err errors.Memory) = Unit {0}
EndsAs all (Err (errors.Refused r)) = ending all ≡ Some r
