-- Promise: where a conversation stands.
use Rattle.std.specs.Prelude.{Bool, true, false, List, Option, Some, None}
use Rattle.sb_postgres.specs.declared.server_message.TransactionStatus.{TransactionStatus}
use Rattle.sb_postgres.specs.declared.server_message.TransactionStatus.TheVariants.{Idle, Open}
use Rattle.sb_postgres.specs.Answers.{Answered, ReadyForQuery}
use Rattle.sb_frontend.specs.declared.phase.Phase.{Phase}
use Rattle.sb_frontend.specs.declared.phase.Phase.TheVariants as phase
use Rattle.sb_frontend.specs.Plays.{Spot}
use Rattle.sb_frontend.specs.Portals.{Workbench, nothing_prepared}

-- where it stands, its session, once that is open, and what is prepared
pub record Standing : Type 0 where
  pub phase : Phase
  pub spot : Option Spot
  pub work : Workbench

abbrev pub at_start : Standing
at_start = record { phase = phase.Starting; spot = None; work = nothing_prepared }

abbrev pub in_phase : Phase → Standing → Standing
in_phase p old = record old { phase = p }

-- a part of it: where it stood, what is told, and where it stands then
abbrev pub Part : Type 1
Part = Standing → List Answered → Standing → Type 0

-- ---- ready for a query

abbrev pub status_of : Bool → TransactionStatus
status_of true = Open
status_of false = Idle

abbrev pub has_in : Option Spot → Bool
has_in None = false
has_in (Some spot) = spot.has

-- it tells whether there is a transaction
abbrev pub ready : Option Spot → Answered
ready spot = ReadyForQuery (status_of (has_in spot))
