-- Promise: a run on tenants that a journal made.
use Rattle.std.specs.Prelude.{◌≡◌, ◌⊎◌, ℕ, Bool, false, nat_lt, List, [], Option, Result, Err, IsTrue, is_some}
use Rattle.std.specs.Io.KnownBytes.{Consumes}
use Rattle.sb_tenant.specs.declared.bound.Bound.{Bound}
use Rattle.sqlite_disk.specs.declared.Disk.{Ghosts}
use Rattle.sb_cell.specs.Tenants.{Cell as ItsCell, hosts, states}
use Rattle.sb_wire.specs.Apart.{RunsApart}
use Rattle.sb_wire.specs.Lines.{Piece, pieces_of}
use Rattle.sb_wire.specs.Responses.{StopsBy}
use Rattle.sb_wire.specs.declared.fault.StreamError.{StreamError}
use Rattle.sb_durable.specs.Journal.{Has, disk_of}
use Rattle.sb_durable.specs.Records.{Entry as Record}
use Rattle.sb_durable.specs.Restart.{AreRecords, IsRestarted, Tells, restarted}
use Rattle.sb_durable.specs.Runs.{AnswersRecorded, RunsRecorded}
use Rattle.sb_durable.specs.declared.journal_header.Head.{Head}
use Rattle.sb_durable.specs.declared.journal.Journal.{Journal}
use Rattle.sb_durable.specs.declared.run.Recording.{Recording}
use Rattle.sb_durable.specs.declared.journal_fault.JournalFault.{JournalFault}
use Rattle.sb_durable.specs.declared.journal_fault.JournalFault.TheVariants.{CannotOpen, Failed, Stream}

-- a cell of the tenants below a number, each of them as a restart leaves it that finds these records
pub record IsBegun (tenants : ℕ) (bound : Bound) (records : List Record) (cell : ItsCell) : Type 0 where
  pub hosted : (t : ℕ) → hosts cell t ≡ nat_lt t tenants
  pub at_most : cell.bound ≡ bound
  pub is_restarted : IsRestarted cell records

-- ---- the text

-- The text answers the lines of an input on such a cell. Whatever the others send, each tenant is told what it would be told alone, from the state that its own records make.
pub record AnswersJournaled (tenants : ℕ) (bound : Bound) (input text : List ℕ) : Type 0 where
  pub records : List Record
  pub begun : ItsCell
  pub is_begun : IsBegun tenants bound records begun
  pub after : ItsCell
  pub answers : AnswersRecorded begun input text after
  pub apart : RunsApart (λ t. nat_lt t tenants) bound (λ t. restarted bound t records) (pieces_of input) text (states after)

-- ---- how a run goes

module _ {R W : Type 0} (fails : R → Type 0) (remaining : R → Option (List ℕ)) (contents : W → Option (List ℕ)) (reader rest : R) (writer after : W) where
  -- lines are answered from a cell on until the run stops
  pub record StopsOn (begun : ItsCell) (told_by : Head → Type 0) (crash : List ℕ → Type 0) (has_failed : Bool) (ended : Result (Unit {0}) StreamError) : Type 0 where
    pub seen : List ℕ
    pub reads : Consumes (remaining reader) (remaining rest) seen
    pub pieces : List Piece
    pub left : List ℕ
    pub stops : StopsBy fails remaining rest has_failed seen pieces left ended
    pub cell : ItsCell
    pub runs : RunsRecorded begun cell pieces (contents writer) (contents after) left told_by crash

  -- A journal's records make a cell, and lines are answered on it. As long as the disk has given no wrong answer before, the records are those that the journal has.
  pub record RunsJournaled {D : Type 0} (disk : Ghosts D) (tenants : ℕ) (bound : Bound) (old new : Recording D disk) (ended : Result (Unit {0}) StreamError) : Type 0 where
    pub records : List Record
    pub begun : ItsCell
    pub is_begun : IsBegun tenants bound records begun
    pub journal : Journal D disk
    pub are : IsTrue (disk.is_clean (disk_of journal)) → (head : Head) (there : List Record) → Has disk.seen disk.may_leave old.journal head there [] → AreRecords there
        → (records ≡ there) × Tells disk.seen disk.may_leave journal head begun
    pub stops : StopsOn begun (λ head. Tells disk.seen disk.may_leave journal head begun) (disk.may_leave (disk_of new.journal)) (is_some new.fault) ended

  -- Lines are answered on such a cell. Then the journal fails, so that what was answered may not be on the disk; or a stream fails.
  pub record StopsBehind (tenants : ℕ) (bound : Bound) (why : JournalFault) : Type 0 where
    pub records : List Record
    pub begun : ItsCell
    pub is_begun : IsBegun tenants bound records begun
    pub has_failed : Bool
    pub ended : Result (Unit {0}) StreamError
    pub stops : StopsOn begun (λ head. ⊥) (λ file. ⊥) has_failed ended
    pub reason : (why ≡ Failed) ⊎ ((has_failed ≡ false) × ((e : StreamError) × (ended ≡ Err e) × (why ≡ Stream e)))

  -- a run ends early: the journal can't be opened or played, and nothing is read or written; or it stops behind some answers
  abbrev pub EndsJournaled : ℕ → Bound → JournalFault → Type 0
  EndsJournaled tenants bound why = ((why ≡ CannotOpen) × (rest ≡ reader) × (after ≡ writer)) ⊎ StopsBehind tenants bound why
