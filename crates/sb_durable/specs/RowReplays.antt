-- Promise: what is played of a row of segments.
use Rattle.std.specs.Prelude.{◌≡◌, ℕ, Bool, List, [], ◌∷◌, ◌++◌, length, map, Option, Some, None, IsTrue}
use Rattle.std.specs.List.{AllByRecursion}
use Rattle.sb_durable.specs.Head.{Head as SegmentHead, IsUnbegun, Stands}
use Rattle.sb_durable.specs.Journal.{contents_of, all_of}
use Rattle.sb_durable.specs.Records.{Entry}
use Rattle.sb_durable.specs.Replays.{PlaysAll}
use Rattle.sb_durable.specs.Restart.{AreRecords}
use Rattle.sb_durable.specs.Row.{Filed, IsRow, AreFiled, all_contents}
use Rattle.sb_durable.specs.RowJournal.{KeepRow, settings_of}
use Rattle.sb_durable.specs.RowReaders.{HasRead, filed}
use Rattle.sb_durable.specs.Segment.{BindsAll, IsBehind, Knows, device_of, end_of, head_of}
use Rattle.sb_durable.specs.declared.journal_header.Head.{Head}
use Rattle.sb_durable.specs.declared.segment.reader.RowReader.{RowReader}
use Rattle.sb_durable.specs.declared.segment.segment.Segment.{Segment}

-- These batches were read of a segment. Whatever the disk did, its end binds their bytes; and where the disk's answers were true, they are all that its file has.
pub record AreRead {D : Type 0} (seen : D → List ℕ) (sure : Type 0) (segment : Segment D) (batches : List (List Entry)) : Type 0 where
  pub binds : BindsAll segment → IsBehind (head_of segment) (contents_of batches) (end_of segment)
  pub are : sure → (others : List (List Entry)) → AreRecords (all_of others) → Knows seen segment (contents_of others) → batches ≡ others

-- each file has what the one with its number may have
abbrev pub AreOfNumbers : (ℕ → List ℕ → Type 0) → List ℕ → List (List ℕ) → Type 0
AreOfNumbers has [] [] = Unit {0}
AreOfNumbers has (number ∷ numbers) (file ∷ files) = has number file × AreOfNumbers has numbers files
AreOfNumbers has [] (file ∷ files) = ⊥
AreOfNumbers has (number ∷ numbers) [] = ⊥

abbrev pub numbers_of : List Filed → List ℕ
numbers_of row = map (λ one. one.head.number) row

-- whatever batches of records the files stand for, they are these
abbrev pub HaveAll : {D : Type 0} → (D → List ℕ) → List D → List (List Entry) → Type 0
HaveAll seen files batches =
    (row : List Filed) (others : List (List Entry)) → AreRecords (all_of others) → AreFiled row (map seen files) → contents_of others ≡ all_contents row → batches ≡ others

-- The records of these older segments and of the last one, which have these numbers, were played, one after another. The segments are a row, whose end binds them, whatever the disks did. Where all disks' answers were true, the records are those that the files of these numbers have.
pub record PlaysRow {D S : Type 0} (has : ℕ → List ℕ → Type 0) (seen : D → List ℕ) (is_clean : D → Bool) (plays : S → Entry → S → Type 0) (old new : S) (reader : RowReader D) (numbers : List ℕ) (older : List Filed) : Type 0 where
  pub last : List (List ℕ)
  pub row : IsRow (older ++ filed reader.last last ∷ [])
  pub end : IsBehind (head_of reader.last) last (end_of reader.last)
  pub numbered : numbers_of (older ++ filed reader.last last ∷ []) ≡ numbers
  pub batches : List (List Entry)
  pub bytes : contents_of batches ≡ all_contents (older ++ filed reader.last last ∷ [])
  pub played : PlaysAll plays old (all_of batches) new
  pub closed : List D
  pub files : AreOfNumbers has numbers (map seen (closed ++ device_of reader.last ∷ []))
  pub begun : IsTrue (is_clean (device_of reader.last)) → IsUnbegun (seen (device_of reader.last)) → ⊥
  pub knows : IsTrue (is_clean (device_of reader.last)) → (head : SegmentHead) (contents : List (List ℕ)) → Stands head contents (seen (device_of reader.last)) → Knows seen reader.last contents
  pub are : AllByRecursion (λ d. IsTrue (is_clean d)) (closed ++ device_of reader.last ∷ []) → HaveAll seen (closed ++ device_of reader.last ∷ []) batches

-- Behind the segments that were read there is no file of these numbers, or one alone, which has not begun.
abbrev pub LeavesUnbegun : {D : Type 0} → (ℕ → List ℕ → Type 0) → (D → List ℕ) → (D → Bool) → List ℕ → Option D → Type 0
LeavesUnbegun has seen is_clean [] None = Unit {0}
LeavesUnbegun has seen is_clean (number ∷ []) (Some file) = has number (seen file) × (IsTrue (is_clean file) → IsUnbegun (seen file))
LeavesUnbegun has seen is_clean numbers unbegun = ⊥

-- the files that were read, and the newest one where it has not begun
abbrev pub files_of : {D : Type 0} → List D → D → Option D → List D
files_of closed last None = closed ++ last ∷ []
files_of closed last (Some file) = closed ++ last ∷ [] ++ file ∷ []

-- The reader has read a row that has these settings and these records.
pub record IsReadAs {D : Type 0} (seen : D → List ℕ) (reader : RowReader D) (head : Head) (records : List Entry) : Type 0 where
  pub older : List Filed
  pub contents : List (List ℕ)
  pub batches : List (List Entry)
  pub read : HasRead seen reader (settings_of head) older contents
  pub bytes : contents_of batches ≡ all_contents (older ++ filed reader.last contents ∷ [])
  pub all : records ≡ all_of batches

-- Suppose that all answers of the disks were true, and that the files keep records, as a crash leaves them. Then the records that were played are these, and the reader has read their row.
abbrev pub ReadsWhatIsKept : {D : Type 0} → (D → List ℕ) → (D → Bool) → List D → RowReader D → List Entry → Type 0
ReadsWhatIsKept seen is_clean files reader played =
    AllByRecursion (λ d. IsTrue (is_clean d)) files → (head : Head) (records : List Entry) → AreRecords records → KeepRow head records (map seen files)
    → (played ≡ records) × IsReadAs seen reader head records

-- All files of these numbers were read and played, so many records, but for a newest one that has not begun.
pub record ReadsRow {D S : Type 0} (has : ℕ → List ℕ → Type 0) (seen : D → List ℕ) (is_clean : D → Bool) (plays : S → Entry → S → Type 0) (old new : S) (reader : RowReader D) (numbers : List ℕ) (unbegun : Option D) (records : ℕ) : Type 0 where
  pub older : List Filed
  pub begun : List ℕ
  pub behind : List ℕ
  pub whole : numbers ≡ begun ++ behind
  pub row : PlaysRow has seen is_clean plays old new reader begun older
  pub count : records ≡ length (all_of row.batches)
  pub rest : LeavesUnbegun has seen is_clean behind unbegun
  pub kept : ReadsWhatIsKept seen is_clean (files_of row.closed (device_of reader.last) unbegun) reader (all_of row.batches)
