-- Promise: what the opening of a folder's files gives.
use Rattle.std.specs.Prelude.{◌≡◌, ℕ, Bool, List, [], length, map, Option, IfSome, IsTrue}
use Rattle.std.specs.List.{AllByRecursion}
use Rattle.sqlite_disk.specs.declared.Disk.{Ghosts}
use Rattle.sb_durable.specs.Records.{Entry}
use Rattle.sb_durable.specs.Replays.{PlaysAll}
use Rattle.sb_durable.specs.Restart.{AreRecords}
use Rattle.sb_durable.specs.Row.{Filed}
use Rattle.sb_durable.specs.RowJournal.{KeepRow}
use Rattle.sb_durable.specs.RowJournals.{HasRow, disk_of}
use Rattle.sb_durable.specs.RowReplays.{AreOfNumbers}
use Rattle.sb_durable.specs.declared.journal_header.Head.{Head}
use Rattle.sb_durable.specs.declared.row_journal.RowJournal.{RowJournal}

-- The files of these numbers were read, and so many records of them were played. Where all disks' answers were true, and the files keep records, as a crash leaves them, these were played, and the journal has them.
pub record OpensRow {D S : Type 0} {g : Ghosts D} (has : ℕ → List ℕ → Type 0) (seen : D → List ℕ) (may_leave : D → List ℕ → Type 0) (is_clean : D → Bool) (plays : S → Entry → S → Type 0) (old new : S) (numbers : List ℕ) (journal : RowJournal D g) (full : Option D) (records : ℕ) : Type 0 where
  pub read : List D
  pub files : AreOfNumbers has numbers (map seen read)
  pub played : List Entry
  pub plays_all : PlaysAll plays old played new
  pub count : records ≡ length played
  pub kept : AllByRecursion (λ d. IsTrue (is_clean d)) read → IsTrue (is_clean (disk_of journal)) → IfSome full (λ d. IsTrue (is_clean d)) → (head : Head) (there : List Entry) → AreRecords there → KeepRow head there (map seen read)
      → (played ≡ there) × ((older : List Filed) × HasRow seen may_leave journal head older there [])
