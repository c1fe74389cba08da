-- Promise: what is known of a row whose segments are read one after the other.
use Rattle.std.specs.Prelude.{◌≡◌, ℕ, Bool, List, [], ◌∷◌, ◌++◌, IsTrue}
use Rattle.sb_durable.specs.Row.{Filed, IsRow, HaveSettings}
use Rattle.sb_durable.specs.Segment.{IsBehind, Knows, device_of, end_of, head_of}
use Rattle.sb_durable.specs.declared.segment.reader.RowReader.{RowReader}
use Rattle.sb_durable.specs.declared.segment.segment.Segment.{Segment}

-- a segment with these contents
abbrev pub filed : {D : Type 0} → Segment D → List (List ℕ) → Filed
filed segment contents = record { head = head_of segment; contents = contents }

-- the segment that was read last
abbrev pub last_of : {D : Type 0} → RowReader D → Segment D
last_of reader = reader.last

-- Behind these older segments the last one has these contents. They are a row, and have these settings.
pub record HasRead {D : Type 0} (seen : D → List ℕ) (reader : RowReader D) (settings : List ℕ) (older : List Filed) (contents : List (List ℕ)) : Type 0 where
  pub knows : Knows seen reader.last contents
  pub row : IsRow (older ++ filed reader.last contents ∷ [])
  pub same_settings : HaveSettings settings (older ++ filed reader.last contents ∷ [])

-- Whatever the disks did, the end of the last segment binds a row: these older ones, and contents of its own.
pub record BindsRow {D : Type 0} (reader : RowReader D) (older : List Filed) : Type 0 where
  pub contents : List (List ℕ)
  pub row : IsRow (older ++ filed reader.last contents ∷ [])
  pub end : IsBehind (head_of reader.last) contents (end_of reader.last)

-- The last segment is the same, and so is its file, after something of it was read.
pub record StaysRead {D : Type 0} (seen : D → List ℕ) (may_leave : D → List ℕ → Type 0) (is_clean : D → Bool) (old new : RowReader D) : Type 0 where
  pub head : head_of new.last ≡ head_of old.last
  pub end : end_of new.last ≡ end_of old.last
  pub knows : (contents : List (List ℕ)) → Knows seen old.last contents → Knows seen new.last contents
  pub file : seen (device_of new.last) ≡ seen (device_of old.last)
  pub crash : (file : List ℕ) → may_leave (device_of new.last) file → may_leave (device_of old.last) file
  pub clean : IsTrue (is_clean (device_of new.last)) → IsTrue (is_clean (device_of old.last))
