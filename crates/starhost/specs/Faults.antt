-- Promise: why a server or a replay ends early, and the lines that tell it.
use Rattle.std.specs.Prelude.{ℕ, ◌≡◌, ◌⊎◌, ◌+◌, List, ◌++◌, Option, Result, Ok, Err, codes, decimal}
use Rattle.sb_wire.specs.Faults.{fault_line}
use Rattle.sb_wire.specs.declared.fault.StreamError.{StreamError}
use Rattle.sb_wire.specs.declared.fault.StreamError.TheVariants as stream
use Rattle.sb_keys.specs.declared.keys.KeysError.TheVariants as keys
use Rattle.sb_host.specs.declared.finish.FinishError.{FinishError}
use Rattle.sb_host.specs.declared.finish.FinishError.TheVariants as finish
use Rattle.sb_server.specs.declared.server.ServeError.{ServeError}
use Rattle.sb_server.specs.declared.server.ServeError.TheVariants as serve
use Rattle.sb_replay.specs.declared.error.ReplayError.{ReplayError}
use Rattle.sb_replay.specs.declared.error.ReplayError.TheVariants as replay
use Rattle.starhost.specs.Commands.{Tells}
use Rattle.starhost.specs.declared.fault.ProgramFault.{ProgramFault}
use Rattle.sb_keys.specs.declared.key_source.Unread.{Unread}
use Rattle.sb_keys.specs.declared.key_source.Unread.TheVariants.{File, NotAFile, TooLong, Keys}
use Rattle.sb_backup.specs.declared.error.BackupError.{BackupError}
use Rattle.sb_backup.specs.Errors.{error_text, one_number_text}
use Rattle.sb_durable.specs.JournalFaults as durable
use Rattle.sb_durable.specs.declared.journal_fault.JournalFault.{JournalFault}
use Rattle.sb_durable.specs.declared.journal_fault.JournalFault.TheVariants as journal
use Rattle.sb_keys.specs.declared.key_digest.DigestError.{DigestError}
use Rattle.sb_keys.specs.declared.key_digest.DigestError.TheVariants as digest
use Rattle.sb_monitor.specs.declared.listener.ListenError.{ListenError}
use Rattle.sb_monitor.specs.declared.listener.ListenError.TheVariants as listen
use Rattle.starhost.specs.declared.fault.ProgramFault.TheVariants.{Stream, CannotListen, CannotWait, CannotStart, WaitingFailed, Journal, Backup, BadLine, NoKeys, BadKeys, BadKey, CannotAttach, TrailMissing, TrailMismatch}

-- ---- the lines

-- a text with the numbers of a session behind it
abbrev pub numbered_text : List ℕ → ℕ → ℕ → List ℕ
numbered_text label tenant session = label ++ decimal tenant ++ codes " " ++ decimal session ++ codes "\n"

abbrev pub fault_text : ProgramFault → List ℕ
fault_text (Stream e) = fault_line e
fault_text CannotListen = codes "fault: cannot listen\n"
fault_text CannotWait = codes "fault: cannot wait\n"
fault_text CannotStart = codes "fault: cannot start a thread\n"
fault_text WaitingFailed = codes "fault: waiting failed\n"
fault_text (Journal why) = durable.fault_text why
fault_text (Backup why) = error_text why
fault_text (BadLine n) = one_number_text (codes "fault: bad line ") n
fault_text NoKeys = codes "fault: no keys\n"
fault_text (BadKeys n) = one_number_text (codes "fault: bad keys ") n
fault_text BadKey = codes "fault: bad key\n"
fault_text (CannotAttach t s) = numbered_text (codes "fault: cannot attach ") t s
fault_text (TrailMissing t s) = numbered_text (codes "fault: trail missing ") t s
fault_text (TrailMismatch t s) = numbered_text (codes "fault: trail mismatch ") t s

module _ {E : Type 0} (denies : E → Type 0) (told : E → Option (List ℕ)) (errors more : E) where
  -- a fault is told by its line, or want of memory where there is none for the line
  abbrev pub TellsFault : ProgramFault → Type 0
  TellsFault why = Tells denies told errors more (fault_text why) ⊎ Tells denies told errors more (fault_line stream.NoMemory)

  -- a server or a replay that ended well has status 0 and tells nothing; one that didn't has status 1 and tells its fault
  abbrev pub TellsEnd : Result (Unit {0}) ProgramFault → ℕ → Type 0
  TellsEnd (Ok value) status = (status ≡ 0) × (more ≡ errors)
  TellsEnd (Err why) status = (status ≡ 1) × TellsFault why

-- ---- the reasons

-- of a stream that failed
abbrev pub IsOfStream : ProgramFault → Type 0
IsOfStream why = (e : StreamError) × (why ≡ Stream e)

-- of an input whose first line has no digest: a stream failed, or the line is no key
abbrev pub RefusesDigest : ProgramFault → Type 0
RefusesDigest why = IsOfStream why ⊎ (why ≡ BadKey)

-- so ends what tells a digest
abbrev pub as_digest : Result (Unit {0}) DigestError → Result (Unit {0}) ProgramFault
as_digest (Ok value) = Ok value
as_digest (Err (digest.Stream e)) = Err (Stream e)
as_digest (Err digest.BadKey) = Err BadKey

-- of a port at which nothing listens
abbrev pub unheard_as : ListenError → ProgramFault
unheard_as (listen.Stream e) = Stream e
unheard_as listen.CannotListen = CannotListen

-- of what sb_backup answered
abbrev pub as_backup : Result (Unit {0}) BackupError → Result (Unit {0}) ProgramFault
as_backup (Ok value) = Ok value
as_backup (Err e) = Err (Backup e)

-- of what sb_durable answered
abbrev pub as_journal : Result (Unit {0}) JournalFault → Result (Unit {0}) ProgramFault
as_journal (Ok value) = Ok value
as_journal (Err e) = Err (Journal e)

-- of keys that weren't read
abbrev pub unread_as : Unread → ProgramFault
unread_as (File e) = NoKeys
unread_as NotAFile = NoKeys
unread_as TooLong = NoKeys
unread_as (Keys (keys.BadLine n)) = BadKeys n
unread_as (Keys keys.NoMemory) = Stream stream.NoMemory

-- of a host that wasn't finished, whose tenants have this first number
abbrev pub unfinished_as : ℕ → FinishError → ProgramFault
unfinished_as first (finish.Missing t s) = TrailMissing (first + t) s
unfinished_as first (finish.Mismatch t s) = TrailMismatch (first + t) s
unfinished_as first finish.NoMemory = Stream stream.NoMemory

-- of an input that wasn't replayed
abbrev pub unplayed_as : ReplayError → ProgramFault
unplayed_as replay.ReadFault = Stream stream.ReadFault
unplayed_as replay.WriteFault = Stream stream.WriteFault
unplayed_as (replay.BadLine n why) = BadLine n
unplayed_as (replay.Attach t s) = CannotAttach t s
unplayed_as (replay.Finish e) = unfinished_as 0 e
unplayed_as replay.NoMemory = Stream stream.NoMemory

-- of connections that weren't served
abbrev pub unserved_as : ServeError → ProgramFault
unserved_as serve.NoMemory = Stream stream.NoMemory
unserved_as serve.NoPlace = CannotWait
unserved_as serve.NoThread = CannotStart
unserved_as serve.PollFailed = WaitingFailed
unserved_as serve.NotKept = Journal journal.Failed
