-- Promise: what a journal has and a crash leaves, over one file and over the files of a folder.
use Rattle.std.specs.Prelude.{◌≡◌, ℕ, List, [], ◌∷◌, ◌++◌}
use Rattle.sqlite_disk.specs.declared.Disk.{Ghosts}
use Rattle.sb_durable.specs.Journal.{Has, Keeps, disk_of}
use Rattle.sb_durable.specs.Log as log
use Rattle.sb_durable.specs.Records.{Entry}
use Rattle.sb_durable.specs.Row.{Filed, AreLeft}
use Rattle.sb_durable.specs.RowJournal.{KeepRow}
use Rattle.sb_durable.specs.RowJournals as rows
use Rattle.sb_durable.specs.Segment as segment
use Rattle.sb_durable.specs.declared.journal.Journal.{Journal}
use Rattle.sb_durable.specs.declared.journal_header.Head.{Head}
use Rattle.sb_durable.specs.declared.row_journal.RowJournal.{RowJournal}
use Rattle.sb_durable.specs.declared.segmented_journal.SegmentedJournal.{SegmentedJournal}

-- the settings of a journal, and the segments that it has in older files
pub record Base : Type 0 where
  pub head : Head
  pub older : List Filed

-- the same settings, and further segments behind the older ones
pub record IsLater (base later : Base) : Type 0 where
  pub same : later.head ≡ base.head
  pub more : List Filed
  pub older : later.older ≡ base.older ++ more

-- ---- over one file

module _ {D : Type 0} {g : Ghosts D} (seen : D → List ℕ) (may_leave : D → List ℕ → Type 0) where
  abbrev pub HasFile : Journal D g → Base → List Entry → List Entry → Type 0
  HasFile journal base entries waiting = (base.older ≡ []) × Has seen may_leave journal base.head entries waiting

abbrev pub LeavesFile : {D : Type 0} {g : Ghosts D} → (D → List ℕ → Type 0) → Journal D g → Base → List (List ℕ) → Type 0
LeavesFile may_leave journal base files = (file : List ℕ) × may_leave (disk_of journal) file × (files ≡ file ∷ [])

abbrev pub KeepsFile : Base → List Entry → List (List ℕ) → Type 0
KeepsFile base entries files = (file : List ℕ) × Keeps base.head entries file × (files ≡ file ∷ [])

abbrev pub IsFileSpent : {D : Type 0} {g : Ghosts D} → Journal D g → Type 0
IsFileSpent journal = log.IsSpent journal.log

-- ---- over the files of a folder

abbrev pub segments_disk : {D M : Type 0} {g : Ghosts D} → SegmentedJournal D M g → D
segments_disk journal = rows.disk_of journal.row

module _ {D M : Type 0} {g : Ghosts D} (seen : D → List ℕ) (may_leave : D → List ℕ → Type 0) where
  abbrev pub HasSegments : SegmentedJournal D M g → Base → List Entry → List Entry → Type 0
  HasSegments journal base entries waiting = rows.HasRow seen may_leave journal.row base.head base.older entries waiting

-- the older files as their segments stand, and what the newest may be
abbrev pub LeavesSegments : {D M : Type 0} {g : Ghosts D} → (D → List ℕ → Type 0) → SegmentedJournal D M g → Base → List (List ℕ) → Type 0
LeavesSegments may_leave journal base files =
    (front : List (List ℕ)) × (file : List ℕ) × AreLeft base.older front × may_leave (segments_disk journal) file × (files ≡ front ++ file ∷ [])

abbrev pub KeepsFiles : Base → List Entry → List (List ℕ) → Type 0
KeepsFiles base entries files = KeepRow base.head entries files

abbrev pub AreSpent : {D M : Type 0} {g : Ghosts D} → SegmentedJournal D M g → Type 0
AreSpent journal = segment.IsSpent (rows.newest_of journal.row)
