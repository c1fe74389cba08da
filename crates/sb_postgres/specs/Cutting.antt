-- Machine: reading the statement at a place of a text.
use Rattle.std.specs.Prelude.{◌≡◌, ℕ, List, drop, Option, Some, None, Result, Ok, Err}
use Rattle.sb_postgres.specs.declared.query.error.QueryError.{QueryError}
use Rattle.sb_postgres.specs.declared.query.error.QueryError.TheVariants as errors
use Rattle.sb_postgres.specs.declared.query.statement.Statement.{Statement}
use Rattle.sb_postgres.specs.declared.query.actions.Scope.TheVariants.{Outside}
use Rattle.sb_postgres.specs.Actions.{scoped}
use Rattle.sb_postgres.specs.Drafts.{drafted_lines, nothing}
use Rattle.sb_postgres.specs.Lines.{Lines, end, refused, line}
use Rattle.sb_postgres.specs.Scan.{pieces}

-- the lines of a text from a place on
abbrev pub lines_from : ℕ → List ℕ → Lines
lines_from at text = drafted_lines nothing (scoped Outside (pieces 0 at (drop at text)))

-- the first of the lines, and the place from which the others come
abbrev pub IsFirst : Lines → List ℕ → Result (Option (Statement × ℕ)) QueryError → Type 0
IsFirst all text (Ok (Some s)) = all ≡ line s.0.line.items s.0.origins.items (lines_from s.1 text)
IsFirst all text (Ok None) = all ≡ end
IsFirst all text (Err errors.Memory) = Unit {0}
IsFirst all text (Err (errors.Refused r)) = all ≡ refused r
