-- Promise: prepared statements and portals, and what messages make of them.
use Rattle.std.specs.Prelude.{◌≡◌, ℕ, Bool, true, false, ◌==◌, if◌then◌else◌, List, [], length, map, slice_get, slice_index, unwrap_or, Option, Some, None, Result, Ok, Err, Vec}
use Rattle.std.specs.Global.{Global}
use Rattle.std.specs.List.{list_all, range_with_len}
use Rattle.sb_value.specs.declared.value.ColumnType.{ColumnType}
use Rattle.sb_value.specs.declared.value.ColumnType.TheVariants.{Text}
use Rattle.sb_value.specs.declared.value.Value.{Value}
use Rattle.sb_postgres.specs.declared.client_message.Target.{Target}
use Rattle.sb_postgres.specs.declared.client_message.Target.TheVariants as target
use Rattle.sb_postgres.specs.declared.query.template.FillError.{FillError}
use Rattle.sb_postgres.specs.Lines.{Lines, end, refused, line}
use Rattle.sb_postgres.specs.Statements.{HasLines}
use Rattle.sb_postgres.specs.Templates.{Counts, Fills}
use Rattle.sb_frontend.specs.declared.denial.Denial.{Denial}
use Rattle.sb_frontend.specs.declared.denial.Denial.TheVariants as d
use Rattle.sb_frontend.specs.Arguments.{are_formats, arguments_from}
use Rattle.sb_frontend.specs.Columns.{client_type}
use Rattle.sb_frontend.specs.Denials.{Comes, of_fill}
use Rattle.sb_frontend.specs.Names.{Named, named, stored, with, without}

-- its line, if its text has one, and the types of its parameters
pub record Prepared : Type 0 where
  pub line : Option (List ℕ)
  pub types : List ℕ

-- the line with its values, and whether it was played
pub record Portal : Type 0 where
  pub line : Option (List ℕ)
  pub played : Bool

pub record Workbench : Type 0 where
  pub statements : Named Prepared
  pub portals : Named Portal

abbrev pub nothing_prepared : Workbench
nothing_prepared = record { statements = []; portals = [] }

-- ---- Parse

-- at most one statement
abbrev pub one_of : Lines → Result (Option (List ℕ)) Denial
one_of end = Ok None
one_of (refused r) = Err (d.Unread r)
one_of (line bytes places end) = Ok (Some bytes)
one_of (line bytes places (refused r)) = Err (d.Unread r)
one_of (line bytes places (line others origins more)) = Err d.Several

abbrev pub type_at : List ColumnType → ℕ → ColumnType
type_at known k = unwrap_or (slice_get known k) Text

-- the type that the client names, or else the one that is known; a text where none is
abbrev pub chosen_at : List ℕ → List ColumnType → ℕ → ℕ
chosen_at given known k = if slice_index given k == 0 then (client_type (type_at known k)).0 else slice_index given k

abbrev pub chosen : ℕ → List ℕ → List ColumnType → List ℕ
chosen count given known = map (chosen_at given known) (range_with_len 0 count)

abbrev pub typed : List ℕ → List ℕ → List ColumnType → Result ℕ FillError → Result Prepared Denial
typed bytes given known (Ok count) = Ok (record { line = Some bytes; types = chosen count given known })
typed bytes given known (Err error) = Err (of_fill error)

-- by the line; which types are known of its parameters, a describer tells
abbrev pub PreparedBy : List ℕ → Result (Option (List ℕ)) Denial → Result Prepared Denial → Type 0
PreparedBy given (Err why) made = Comes (Err why) made
PreparedBy given (Ok None) made = made ≡ Ok (record { line = None; types = [] })
PreparedBy given (Ok (Some bytes)) made = (known : List ColumnType) × (count : Result ℕ FillError) × Counts bytes count × Comes (typed bytes given known count) made

abbrev pub IsPrepared : List ℕ → List ℕ → Result Prepared Denial → Type 0
IsPrepared text given made = (ls : Lines) × (found : Result (Option (List ℕ)) Denial) × HasLines 0 text ls × Comes (one_of ls) found × PreparedBy given found made

abbrev pub with_statements : Workbench → Result (Named Prepared) Denial → Result Workbench Denial
with_statements work (Ok names) = Ok (record work { statements = names })
with_statements work (Err why) = Err why

-- under its name
abbrev pub prepared : List ℕ → Result Prepared Denial → Workbench → Result Workbench Denial
prepared name (Ok p) work = with_statements work (stored name p d.StatementExists work.statements)
prepared name (Err why) work = Err why

-- ---- Bind

abbrev pub unplayed : Option (List ℕ) → Portal
unplayed bytes = record { line = bytes; played = false }

-- results are told in text
abbrev pub are_texts : List ℕ → Bool
are_texts = list_all (λ format. format == 0)

-- as many values as parameters, and formats for them
abbrev pub values_of : Prepared → List ℕ → List (Option (List ℕ)) → List ℕ → Result (List Value) Denial
values_of p formats sent results =
    if length sent == length p.types
    then (if are_formats (length formats) (length sent)
    then (if are_texts results then arguments_from 0 p.types formats sent else Err d.UnknownFormat) else Err d.WrongFormats) else Err d.WrongValues

abbrev pub filled_portal : Result (Vec ℕ Global) FillError → Result Portal Denial
filled_portal (Ok made) = Ok (unplayed (Some made.items))
filled_portal (Err error) = Err (of_fill error)

-- the portal's line is the statement's with these values
abbrev pub BoundBy : Option (List ℕ) → Result (List Value) Denial → Result Portal Denial → Type 0
BoundBy bytes (Err why) made = made ≡ Err why
BoundBy None (Ok values) made = made ≡ Ok (unplayed None)
BoundBy (Some bytes) (Ok values) made = (f : Result (Vec ℕ Global) FillError) × Fills bytes values f × Comes (filled_portal f) made

abbrev pub IsBound : Option Prepared → List ℕ → List (Option (List ℕ)) → List ℕ → Result Portal Denial → Type 0
IsBound None formats sent results made = made ≡ Err d.NoStatement
IsBound (Some p) formats sent results made = (values : Result (List Value) Denial) × Comes (values_of p formats sent results) values × BoundBy p.line values made

abbrev pub with_portals : Workbench → Result (Named Portal) Denial → Result Workbench Denial
with_portals work (Ok names) = Ok (record work { portals = names })
with_portals work (Err why) = Err why

abbrev pub bound : List ℕ → Result Portal Denial → Workbench → Result Workbench Denial
bound name (Ok p) work = with_portals work (stored name p d.PortalExists work.portals)
bound name (Err why) work = Err why

-- ---- Execute

-- only its name is left of a portal that was played
abbrev pub over : Portal
over = record { line = None; played = true }

abbrev pub taken : Workbench → List ℕ → Option (List ℕ) → Result (Option (List ℕ) × Workbench) Denial
taken work name None = Ok (None, work)
taken work name (Some bytes) = Ok (Some bytes, record work { portals = with name over work.portals })

abbrev pub taken_of : Workbench → List ℕ → ℕ → Option Portal → Result (Option (List ℕ) × Workbench) Denial
taken_of work name rows None = Err d.NoPortal
taken_of work name rows (Some p) = if p.played then Err d.Played else (if rows == 0 then taken work name p.line else Err d.Limited)

-- a portal is played once, whole
abbrev pub started : List ℕ → ℕ → Workbench → Result (Option (List ℕ) × Workbench) Denial
started name rows work = taken_of work name rows (named name work.portals)

-- ---- Close

-- what isn't there is closed, too
abbrev pub closed : Target → List ℕ → Workbench → Workbench
closed target.Statement name work = record work { statements = without name work.statements }
closed target.Portal name work = record work { portals = without name work.portals }
