-- Promise: what a statement is, by its first words.
use Rattle.std.specs.Prelude.{ℕ, Bool, true, false, ◌==◌, nat_eq, if◌then◌else◌, List, [], ◌∷◌, length, map, drop}
use Rattle.std.specs.List.{starts_with}
use Rattle.std.specs.Str.{bytes_eq}
use Rattle.sb_postgres.specs.declared.query.kind.StatementKind.{StatementKind}
use Rattle.sb_postgres.specs.declared.query.kind.StatementKind.TheVariants.{Statement}
use Rattle.sb_postgres.specs.declared.query.openings.Reach.{Reach}
use Rattle.sb_postgres.specs.declared.query.openings.Reach.TheVariants.{WholeLine, FirstWords}
use Rattle.sb_postgres.specs.declared.query.openings.TheConstants.{OPENINGS}
use Rattle.sb_postgres.specs.Bytes.{begins, is_word}

-- the line is these words, or begins with them and no letter, digit or `_` follows
abbrev pub fits : Reach → List ℕ → List ℕ → Bool
fits WholeLine words line = bytes_eq line words
fits FirstWords words line = if starts_with nat_eq line words then (if begins is_word (drop (length words) line) then false else true) else false

-- words, how far they go, and the kind
abbrev pub Opening : Type 0
Opening = List ℕ × Reach × StatementKind

abbrev pub first_fitting : List Opening → List ℕ → StatementKind
first_fitting [] line = Statement
first_fitting (o ∷ os) line = if fits o.1 o.0 line then o.2 else first_fitting os line

-- by the table of openings
unfoldable pub kind_of : List ℕ → StatementKind
kind_of line = first_fitting (map (λ o. (o.0.now, o.1, o.2)) OPENINGS) line

-- without the space at its begin
abbrev pub behind_space : List ℕ → List ℕ
behind_space [] = []
behind_space (b ∷ bs) = if b == 32 then bs else b ∷ bs
