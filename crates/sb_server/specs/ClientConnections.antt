-- Machine: how a turn of a connection over a stream ends.
use Rattle.std.specs.Prelude.{◌≡◌, ◌⊎◌, ◌≤◌, ◌-◌, ◌++◌, ◌∷◌, ℕ, Bool, true, false, List, [], ⊤, Option, Some, Result, Ok, Err}
use Rattle.std.specs.Duration.{as_nanos}
use Rattle.std.specs.declared.time.Duration.{Duration}
use Rattle.std.specs.IoError.{error_kind}
use Rattle.std.specs.Time.{instant_nanos}
use Rattle.std.specs.declared.time.Instant.{Instant}
use Rattle.std.specs.declared.io.Error.{Error}
use Rattle.sb_wire.specs.declared.fault.StreamError.TheVariants.{ReadFault, WriteFault, NoMemory}
use Rattle.sb_connection.specs.declared.connection_end.ConnectionEnd.{ConnectionEnd}
use Rattle.sb_connection.specs.declared.first_line.SessionName.{SessionName}
use Rattle.sb_connection.specs.declared.connection_end.ConnectionEnd.TheVariants.{Well, Fault, Idle, IdleTransaction, ByOperator}
use Rattle.sb_connection.specs.declared.state.State.TheVariants.{Failed}
use Rattle.sb_connection.specs.History.{History, MayReceive}
use Rattle.sb_connection.specs.Standing.{is_open}
use Rattle.sb_connection.specs.Traffic.{Call, Traffic, after_read, blocks, reading_failed, writing_failed}
use Rattle.sb_server.specs.declared.client_connection.Limits.{Limits}
use Rattle.sb_server.specs.declared.client_connection.Next.{Next}
use Rattle.sb_server.specs.declared.client_connection.Next.TheVariants.{Waits, GoesOn, Ends}

-- How a turn ends a connection. Well: no line is answered any more, and all is sent. By a fault: a read failed, a write failed, or memory ran
-- out for what came or for a reply. And by an operator, at any time.
abbrev pub EndsBy : Traffic → History → Bool → ConnectionEnd → Type 0
EndsBy t h is_cut Well = (is_open h.state ≡ false) × (h.pending ≡ []) × (h.state ≡ Failed → ⊥)
EndsBy t h is_cut (Fault ReadFault reason) = reading_failed t ≡ true
EndsBy t h is_cut (Fault WriteFault reason) = writing_failed t ≡ true
EndsBy t h is_cut (Fault NoMemory reason) = (is_cut ≡ true) ⊎ (h.state ≡ Failed)
EndsBy t h is_cut Idle = ⊥
EndsBy t h is_cut IdleTransaction = ⊥
EndsBy t h is_cut ByOperator = ⊤

-- neither is all said, nor did memory run out for a reply
abbrev pub IsUnderWay : History → Type 0
IsUnderWay h = (h.state ≡ Failed → ⊥) × ((is_open h.state ≡ false) × (h.pending ≡ []) → ⊥)

-- it is paused for a renewal, or its session waits for the next volume of its tenant's trail
abbrev pub AwaitsRenewal : Bool → History → Type 0
AwaitsRenewal is_paused h = (is_paused ≡ true) ⊎ (h.waits ≡ true)

-- So it is told, where it ends one. It waits only where something is to be sent, more may come or its tenant is to be renewed, and goes on at once
-- only where nothing is to be sent.
abbrev pub TellsEnd : Traffic → History → Bool → Bool → Next → Type 0
TellsEnd t h is_cut is_paused Waits = IsUnderWay h × ((h.pending ≡ [] → ⊥) ⊎ (MayReceive h ⊎ AwaitsRenewal is_paused h))
TellsEnd t h is_cut is_paused GoesOn = IsUnderWay h × (h.pending ≡ [])
TellsEnd t h is_cut is_paused (Ends ending) = EndsBy t h is_cut ending

-- there is a limit, and nothing was heard for at least so long
pub record IsSilentFor (limit : Option Duration) (heard : Option Instant) (now : Instant) : Type 0 where
  pub length : Duration
  pub last : Instant
  pub is_limit : limit ≡ Some length
  pub is_heard : heard ≡ Some last
  pub reached : as_nanos length ≤ instant_nanos now - instant_nanos last

-- so ends one that has been silent for too long
abbrev pub EndsSilent : Limits → Option Instant → Instant → ConnectionEnd → Type 0
EndsSilent limits heard now Idle = IsSilentFor limits.idle heard now
EndsSilent limits heard now IdleTransaction = IsSilentFor limits.idle_transaction heard now
EndsSilent limits heard now ending = ⊥

-- this session was opened for it
abbrev pub HasSession : History → SessionName → Type 0
HasSession h named = (h.attached ≡ true) × (h.named ≡ Some named)

abbrev pub ends : Next → Bool
ends Waits = false
ends GoesOn = false
ends (Ends ending) = true

-- it read once
abbrev pub ReadsOnce : Traffic → Traffic → Type 0
ReadsOnce old new = (bytes : List ℕ) × (answer : Result ℕ Error) × (new ≡ after_read old bytes answer)

abbrev pub is_later : Result ℕ Error → Bool
is_later (Ok n) = false
is_later (Err e) = blocks (error_kind e)

-- the last write is to be made again, once there is room
abbrev pub IsBlocked : Traffic → Type 0
IsBlocked t = (earlier : List Call) × (last : Call) × (t.writes ≡ earlier ++ last ∷ []) × (is_later last.1 ≡ true)

-- nothing is lost of what was to be sent, and nothing else changes
abbrev pub SendsSome : History → History → Type 0
SendsSome old new =
    (new ≡ record old { handed = new.handed; pending = new.pending; binding = new.binding }) × (new.handed ++ new.pending ≡ old.handed ++ old.pending)
