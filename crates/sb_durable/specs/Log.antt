-- Promise: what a log of blocks has, and when it isn't used any more.
use Rattle.std.specs.Prelude.{◌≡◌, ◌≢◌, ℕ, List, [], ◌∷◌, ◌++◌, length, Option, Some, None, IsTrue}
use Rattle.std.specs.List.{AllByRecursion}
use Rattle.sqlite_disk.specs.Disk.{Only}
use Rattle.sb_durable.specs.Blocks.{blocks, IsContent}
use Rattle.sb_durable.specs.declared.record_log.RecordLog.{RecordLog}

-- the blocks and a shut gate, and nothing behind it
pub record IsAtRest (contents : List (List ℕ)) (file : List ℕ) : Type 0 where
  pub gate : ℕ
  pub shut : gate ≢ 1
  pub whole : file ≡ blocks contents ++ gate ∷ []

-- The log has these contents, all of them on the disk, so that a crash leaves them.
pub record HasAll {D : Type 0} (seen : D → List ℕ) (may_leave : D → List ℕ → Type 0) (log : RecordLog D) (contents : List (List ℕ)) : Type 0 where
  pub each : AllByRecursion IsContent contents
  pub gate : log.gate ≡ length (blocks contents)
  pub file : IsAtRest contents (seen log.device)
  pub durable : Only (seen log.device) (may_leave log.device)

-- a write or a sync has failed, and what the file has isn't known
abbrev pub IsSpent : {D : Type 0} → RecordLog D → Type 0
IsSpent log = IsTrue log.is_spent

abbrev pub device_of : {D : Type 0} → RecordLog D → D
device_of log = log.device

-- What is read behind the contents `front`, where `back` are the others: the first of those, and where the next begins.
abbrev pub Reads : List (List ℕ) → List (List ℕ) → List ℕ → Option ℕ → Type 0
Reads front [] bytes next = next ≡ None
Reads front (content ∷ back) bytes next = (bytes ≡ content) × (next ≡ Some (length (blocks (front ++ content ∷ []))))
