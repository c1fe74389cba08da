-- Promise: what a journal has whose records stand in a row of segments.
use Rattle.std.specs.Prelude.{◌≡◌, ℕ, List, ◌∷◌, [], ◌++◌}
use Rattle.sqlite_disk.specs.declared.Disk.{Ghosts}
use Rattle.sb_durable.specs.Journal.{contents_of, all_of}
use Rattle.sb_durable.specs.Records.{Entry, bytes_of}
use Rattle.sb_durable.specs.Row.{Filed, IsRow, HaveSettings, all_contents}
use Rattle.sb_durable.specs.RowJournal.{settings_of}
use Rattle.sb_durable.specs.RowReaders.{filed}
use Rattle.sb_durable.specs.Segment.{HasAll, device_of}
use Rattle.sb_durable.specs.declared.journal_header.Head.{Head}
use Rattle.sb_durable.specs.declared.row_journal.RowJournal.{RowJournal}
use Rattle.sb_durable.specs.declared.segment.segment.Segment.{Segment}

-- Behind these older segments the journal's newest one has the last of these records, all of them on the disk, and these others wait in memory.
pub record HasRow {D : Type 0} {g : Ghosts D} (seen : D → List ℕ) (may_leave : D → List ℕ → Type 0) (journal : RowJournal D g) (head : Head) (older : List Filed) (entries waiting : List Entry) : Type 0 where
  pub contents : List (List ℕ)
  pub newest : HasAll seen may_leave journal.newest contents
  pub row : IsRow (older ++ filed journal.newest contents ∷ [])
  pub settings : HaveSettings (settings_of head) (older ++ filed journal.newest contents ∷ [])
  pub batches : List (List Entry)
  pub bytes : contents_of batches ≡ all_contents (older ++ filed journal.newest contents ∷ [])
  pub all : entries ≡ all_of batches
  pub waits : journal.waiting.items ≡ bytes_of waiting

abbrev pub newest_of : {D : Type 0} {g : Ghosts D} → RowJournal D g → Segment D
newest_of journal = journal.newest

-- the file of the newest segment
abbrev pub disk_of : {D : Type 0} {g : Ghosts D} → RowJournal D g → D
disk_of journal = device_of journal.newest
