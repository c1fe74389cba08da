-- Promise: what the files of a folder keep of a journal, and what a restart makes of it.
use Rattle.std.specs.Prelude.{◌≡◌, ℕ, List, ◌++◌, ◌∷◌, IsTrue}
use Rattle.std.specs.Int.{w32, w64, to_be_bytes}
use Rattle.sb_tenant.specs.declared.bound.Bound.{Bound}
use Rattle.sb_durable.specs.Journal.{contents_of, all_of}
use Rattle.sb_durable.specs.Records.{Entry as Record}
use Rattle.sb_durable.specs.Restart.{ends}
use Rattle.sb_durable.specs.Row.{Hold}
use Rattle.sb_durable.specs.VolumeRecords.{IsOfNoUse, made_of}
use Rattle.sb_durable.specs.declared.journal_header.Head.{Head}
use Rattle.sb_tenant.specs.State.{State}
use Rattle.sb_tenant.specs.Trail.{state_after}
use Rattle.sb_cell.specs.Tenants.{Cell, hosts, states}

-- four bytes of tenants, four of the budget and four of the limit of considerations, which each segment has as its settings
abbrev pub settings_of : Head → List ℕ
settings_of head = to_be_bytes w32 head.tenants ++ (to_be_bytes w32 head.work ++ to_be_bytes w32 head.bound)

-- The files of a folder, in the order of their numbers, have these settings and these records, in batches.
pub record KeepRow (head : Head) (records : List Record) (files : List (List ℕ)) : Type 0 where
  pub batches : List (List Record)
  pub hold : Hold (settings_of head) (contents_of batches) files
  pub all : records ≡ all_of batches

-- the records make the state of each tenant of the cell
abbrev pub Remembers : Cell → List Record → Type 0
Remembers cell records = (t : ℕ) → IsTrue (hosts cell t) → made_of cell.bound t records ≡ states cell t

-- a tenant after a restart: as its records make it, with no session open any more
abbrev pub restarted : Bound → ℕ → List Record → State
restarted bound t records = state_after t bound (made_of bound t records) (ends (made_of bound t records))

-- each tenant of the cell is as a restart leaves it
abbrev pub IsRestarted : Cell → List Record → Type 0
IsRestarted cell records = (t : ℕ) → IsTrue (hosts cell t) → states cell t ≡ restarted cell.bound t records

-- A folder that loses its oldest file keeps the newer records.
abbrev pub FoldersCanLoseTheirOldest : Type 0
FoldersCanLoseTheirOldest =
    (head : Head) (records : List Record) (file : List ℕ) (files : List (List ℕ)) → KeepRow head records (file ∷ files)
    → (older newer : List Record) × (records ≡ older ++ newer) × KeepRow head newer files

-- Where no tenant needs the older records, a restart makes the same tenants of the newer ones.
abbrev pub RestartsAreTheSame : Type 0
RestartsAreTheSame =
    (cell : Cell) (older newer : List Record) → ((t : ℕ) → IsTrue (hosts cell t) → IsOfNoUse t older newer)
    → IsRestarted cell (older ++ newer) → IsRestarted cell newer
