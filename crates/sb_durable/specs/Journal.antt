-- Promise: what a journal has, and what a file keeps of it.
use Rattle.std.specs.Prelude.{◌≡◌, ℕ, List, [], ◌∷◌, ◌++◌, length, Option, Some, None}
use Rattle.std.specs.Int.{w32, w64, to_be_bytes}
use Rattle.sqlite_disk.specs.declared.Disk.{Ghosts}
use Rattle.sb_durable.specs.Blocks.{blocks, Stands}
use Rattle.sb_durable.specs.Log.{HasAll, device_of}
use Rattle.sb_durable.specs.Records.{Entry, bytes_of}
use Rattle.sb_durable.specs.declared.journal_header.Head.{Head}
use Rattle.sb_durable.specs.declared.journal.Journal.{Journal}

-- the word FILGJRN1, whose last letter is the version of what lines mean
abbrev pub magic : List ℕ
magic = 70 ∷ 73 ∷ 76 ∷ 71 ∷ 74 ∷ 82 ∷ 78 ∷ 49 ∷ []

abbrev pub head_bytes : Head → List ℕ
head_bytes head = magic ++ (to_be_bytes w32 head.tenants ++ (to_be_bytes w32 head.work ++ to_be_bytes w32 head.bound))

abbrev pub contents_of : List (List Entry) → List (List ℕ)
contents_of [] = []
contents_of (batch ∷ batches) = bytes_of batch ∷ contents_of batches

-- the records of the batches, in order
abbrev pub all_of : List (List Entry) → List Entry
all_of [] = []
all_of (batch ∷ batches) = batch ++ all_of batches

-- The file has this head, and then these records, in batches.
pub record Keeps (head : Head) (entries : List Entry) (file : List ℕ) : Type 0 where
  pub batches : List (List Entry)
  pub stands : Stands (head_bytes head ∷ contents_of batches) file
  pub all : entries ≡ all_of batches

-- The journal has this head and these records, all of them on the disk, and these others wait in memory.
pub record Has {D : Type 0} {g : Ghosts D} (seen : D → List ℕ) (may_leave : D → List ℕ → Type 0) (journal : Journal D g) (head : Head) (entries waiting : List Entry) : Type 0 where
  pub batches : List (List Entry)
  pub log : HasAll seen may_leave journal.log (head_bytes head ∷ contents_of batches)
  pub all : entries ≡ all_of batches
  pub waits : journal.waiting.items ≡ bytes_of waiting

abbrev pub disk_of : {D : Type 0} {g : Ghosts D} → Journal D g → D
disk_of journal = device_of journal.log

-- From this place on, the journal has these records.
pub record IsAt {D : Type 0} {g : Ghosts D} (seen : D → List ℕ) (may_leave : D → List ℕ → Type 0) (journal : Journal D g) (head : Head) (place : ℕ) (entries : List Entry) : Type 0 where
  pub front : List (List Entry)
  pub back : List (List Entry)
  pub log : HasAll seen may_leave journal.log (head_bytes head ∷ contents_of (front ++ back))
  pub reach : place ≡ length (blocks (head_bytes head ∷ contents_of front))
  pub all : entries ≡ all_of back

-- What is read where these records are: nothing, at their end; or the bytes of the first of them, and the place of the others.
abbrev pub Gives : (ℕ → List Entry → Type 0) → List Entry → List ℕ → Option ℕ → Type 0
Gives at entries bytes None = entries ≡ []
Gives at entries bytes (Some next) = (batch later : List Entry) × (bytes ≡ bytes_of batch) × (entries ≡ batch ++ later) × at next later
