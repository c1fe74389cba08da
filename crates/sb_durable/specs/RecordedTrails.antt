-- Promise: what a journal and its counts are after parts of trails were recorded.
use Rattle.std.specs.Prelude.{◌≡◌, ◌⊎◌, ℕ, ◌+◌, ◌<◌, ◌≤◌, Bool, Contains, IsFalse, IsTrue, List, [], ◌++◌, length, map, take, slice_index, slice_set}
use Rattle.sb_durable.specs.BatchJournals.{Base}
use Rattle.sb_durable.specs.declared.batch_journal.BatchJournal.{Ghosts}
use Rattle.sb_durable.specs.Records.{Entry as Record}
use Rattle.sb_durable.specs.EntryReaders.{record_of_note}
use Rattle.sb_durable.specs.Recording.{Part, records_of, renewals_of, Counts, Reaches, AreAmong}
use Rattle.sb_durable.specs.declared.entry_reader.PendingEntry.{PendingEntry}
use Rattle.sb_durable.specs.declared.entry_reader.EntryReader.{EntryReader}
use Rattle.sb_durable.specs.declared.entry_reader.ReadReach.{ReadReach}
use Rattle.sb_durable.specs.declared.entry_reader.ReadReach.TheVariants as reach
use Rattle.sb_durable.specs.declared.journal_writer.JournalWriter.{JournalWriter}
use Rattle.sb_durable.specs.declared.noted_trail.TrailEnd.{TrailEnd}
use Rattle.sb_durable.specs.declared.recorded_reach.RecordingStart.{RecordingStart}

-- The files have these records, and a first part of those behind them.
pub record KeepsFront {J : Type 0} (kind : Ghosts J) (base : Base) (records more : List Record) (files : List (List ℕ)) : Type 0 where
  pub front : List Record
  pub back : List Record
  pub all : more ≡ front ++ back
  pub keeps : kind.keeps base (records ++ front) files

-- The journal has these records and a first part of those behind them; the others wait.
pub record HasFront {J : Type 0} (kind : Ghosts J) (journal : J) (base : Base) (records more : List Record) : Type 0 where
  pub front : List Record
  pub back : List Record
  pub all : more ≡ front ++ back
  pub has : kind.has journal base (records ++ front) back

-- Beside these records and those that waited, the book has recorded these parts, unless it is given up. A crash leaves a first part of them.
pub record Takes {J : Type 0} (kind : Ghosts J) (given_up : Type 0) (old new : JournalWriter J) (base : Base) (records waiting : List Record) (parts : List Part) : Type 0 where
  pub counts : Counts old.recorded.items parts new.recorded.items
  pub has : given_up ⊎ HasFront kind new.journal base records (waiting ++ records_of parts)
  pub crash : (files : List (List ℕ)) → kind.leaves new.journal base files → KeepsFront kind base records (waiting ++ records_of parts) files

-- Whatever it had, the book has recorded some parts beside it.
abbrev pub TakesParts : {J : Type 0} → Ghosts J → Type 0 → JournalWriter J → JournalWriter J → Type 0
TakesParts kind given_up old new =
    (base : Base) (records waiting : List Record) → kind.has old.journal base records waiting
    → (parts : List Part) × Takes kind given_up old new base records waiting parts

-- the tenants whose trails end there
abbrev pub ends_of : List TrailEnd → List ℕ
ends_of ends = map (λ end. end.tenant) ends

-- These steps of a tenant wait then, too, behind the renewal if there is one, and are counted.
pub record Stages {J : Type 0} (kind : Ghosts J) (old new : JournalWriter J) (tenant : ℕ) (start : RecordingStart) (notes : List PendingEntry) : Type 0 where
  pub counts : new.recorded.items ≡ slice_set old.recorded.items tenant (record { volume = start.reach.volume; entries = start.reach.entries + length notes })
  pub has : (base : Base) (records waiting : List Record) → kind.has old.journal base records waiting
      → kind.has new.journal base records (waiting ++ (renewals_of tenant start.is_renewed ++ map (record_of_note tenant) notes))

-- nothing more waits
pub record StagesNothing {J : Type 0} (kind : Ghosts J) (old new : JournalWriter J) : Type 0 where
  pub counts : new.recorded.items ≡ old.recorded.items
  pub has : (base : Base) (records waiting : List Record) → kind.has old.journal base records waiting → kind.has new.journal base records waiting

-- the parts are of these tenants, and some part goes to the end of each one's trail
pub record Brings (tenants : List ℕ) (parts : List Part) : Type 0 where
  pub each : (k : ℕ) → k < length tenants → Reaches parts (slice_index tenants k)
  pub no_others : AreAmong tenants parts

-- A book was brought up to the trails of these tenants: what it had, what waited and these parts are on the disk.
abbrev pub BringsUp : {J : Type 0} → Ghosts J → JournalWriter J → JournalWriter J → List ℕ → Type 0
BringsUp kind old new tenants =
    (base : Base) (records waiting : List Record) → kind.has old.journal base records waiting
    → (parts : List Part) × Takes kind ⊥ old new base records waiting parts
    × kind.has new.journal base (records ++ (waiting ++ records_of parts)) [] × Brings tenants parts

-- each of these tenants is in the list
abbrev pub HasEach : List ℕ → List ℕ → Type 0
HasEach list tenants = (t : ℕ) → Contains tenants t → Contains list t

-- A book was brought up to the trails of tenants, and these were among them.
pub record AreKept {J : Type 0} (kind : Ghosts J) (tenants : List ℕ) : Type 0 where
  pub old : JournalWriter J
  pub new : JournalWriter J
  pub all : List ℕ
  pub among : HasEach all tenants
  pub brings : BringsUp kind old new all

-- The first of these steps wait, and all of them where all were taken.
pub record StagesFront {J : Type 0} (kind : Ghosts J) (old new : JournalWriter J) (tenant : ℕ) (start : RecordingStart) (notes : List PendingEntry) (all : Bool) : Type 0 where
  pub count : ℕ
  pub few : count ≤ length notes
  pub whole : IsTrue all → count ≡ length notes
  pub stages : Stages kind old new tenant start (take count notes)

-- so it is, or not even the renewal could wait
abbrev pub StagesSome : {J : Type 0} → Ghosts J → JournalWriter J → JournalWriter J → ℕ → RecordingStart → List PendingEntry → Bool → Type 0
StagesSome kind old new tenant start notes all =
    (StagesNothing kind old new × IsFalse all) ⊎ StagesFront kind old new tenant start notes all

-- What was noted waits; nothing does where nothing was reached.
abbrev pub StagesBy : {J : Type 0} → Ghosts J → JournalWriter J → JournalWriter J → ℕ → RecordingStart → List PendingEntry → Bool → ReadReach → Type 0
StagesBy kind old new tenant start notes all reach.Nowhere = new ≡ old
StagesBy kind old new tenant start notes all reach.NoMemory = new ≡ old
StagesBy kind old new tenant start notes all reach.Part = StagesSome kind old new tenant start notes all
StagesBy kind old new tenant start notes all reach.End = StagesSome kind old new tenant start notes all

abbrev pub StagesNoted : {J : Type 0} → Ghosts J → JournalWriter J → JournalWriter J → ℕ → EntryReader → Bool → Type 0
StagesNoted kind old new tenant notes all = StagesBy kind old new tenant notes.start notes.list.items all notes.reach
