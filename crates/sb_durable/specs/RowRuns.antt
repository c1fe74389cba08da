-- Promise: a run whose steps are recorded in the files of a folder before they are answered, and what a crash leaves of it.
use Rattle.std.specs.Prelude.{◌≡◌, ℕ, ◌≤◌, List, [], ◌++◌, length, IsTrue}
use Rattle.sqlite_disk.specs.declared.Disk.{Ghosts}
use Rattle.sb_durable.specs.Records.{Entry as Record}
use Rattle.sb_durable.specs.Restart.{AreRecords, ended}
use Rattle.sb_durable.specs.Row.{Filed}
use Rattle.sb_durable.specs.RowJournal.{KeepRow, Remembers, restarted}
use Rattle.sb_durable.specs.RowJournals.{HasRow}
use Rattle.sb_durable.specs.Runs.{Step, run_by}
use Rattle.sb_durable.specs.declared.journal_header.Head.{Head}
use Rattle.sb_durable.specs.declared.row_journal.RowJournal.{RowJournal}
use Rattle.sb_tenant.specs.declared.reply.Entry.{Entry}
use Rattle.sb_tenant.specs.Trail.{state_of}
use Rattle.sb_cell.specs.Headline.{IsRun}
use Rattle.sb_cell.specs.Tenants.{Cell, hosts, trails}

-- Behind these older segments the journal has records that make the cell's tenants, and all of them are on the disk.
pub record Tells {D : Type 0} {g : Ghosts D} (seen : D → List ℕ) (may_leave : D → List ℕ → Type 0) (journal : RowJournal D g) (head : Head) (older : List Filed) (cell : Cell) : Type 0 where
  pub records : List Record
  pub are : AreRecords records
  pub remembers : Remembers cell records
  pub has : HasRow seen may_leave journal head older records []

-- The records in these files make each tenant as it was after a first part of the steps, which has at least so many of them. A restart ends the sessions that are open there.
pub record Survives (old : Cell) (steps : List Step) (answered : ℕ) (head : Head) (files : List (List ℕ)) : Type 0 where
  pub first : List Step
  pub more : List Step
  pub split : steps ≡ first ++ more
  pub enough : answered ≤ length first
  pub between : ℕ → List Entry
  pub run : IsRun old.bound (run_by (hosts old) (trails old) first between)
  pub records : List Record
  pub are : AreRecords records
  pub keeps : KeepRow head records files
  pub states : (t : ℕ) → IsTrue (hosts old t) → restarted old.bound t records ≡ ended old.bound t (state_of t old.bound (between t))
