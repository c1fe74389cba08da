-- Machine: what a step that may fail leaves.
use Rattle.std.specs.Prelude.{ℕ, List, Option, option_map, Result, Ok, Err, Vec}
use Rattle.std.specs.Global.{Global}
use Rattle.sb_postgres.specs.declared.query.statement.Statement.{Statement}
use Rattle.sb_frontend.specs.declared.denial.Denial.{Denial}
use Rattle.sb_frontend.specs.Portals.{Workbench, taken}

-- what is left where it went well, or why it failed
abbrev pub outcome : {X E : Type 0} → X → Result (Unit {0}) E → Result X E
outcome new (Ok _) = Ok new
outcome new (Err why) = Err why

-- a list without where it lies in memory
abbrev pub listed : {X E : Type 0} → Result (Vec X Global) E → Result (List X) E
listed (Ok xs) = Ok xs.items
listed (Err why) = Err why

abbrev pub line_of : Option Statement → Option (List ℕ)
line_of = option_map (λ s. s.line.items)

abbrev pub line_found : Result (Option Statement) Denial → Result (Option (List ℕ)) Denial
line_found (Ok s) = Ok (line_of s)
line_found (Err why) = Err why

-- a statement that is to be played, and the work then
abbrev pub taken_by : Workbench → List ℕ → Result (Option Statement) Denial → Result (Option (List ℕ) × Workbench) Denial
taken_by work name (Ok s) = taken work name (line_of s)
taken_by work name (Err why) = Err why

abbrev pub with_line : Workbench → Result (Option Statement) Denial → Result (Option (List ℕ) × Workbench) Denial
with_line work (Ok s) = Ok (line_of s, work)
with_line work (Err why) = Err why
