-- Segments that are read one after the other.
use Rattle.std.proofs.Common.{◌≡◌, ℕ, List, [], ◌∷◌, ◌++◌, refl}
use Rattle.sb_durable.specs.Head.{Head, IsCutHead, IsForeign, IsUnbegun, Stands}
use Rattle.sb_durable.specs.Row.{Filed, IsNext}
use Rattle.sb_durable.specs.RowFaults.{IsRefused}
use Rattle.sb_durable.specs.RowReaders.{HasRead, BindsRow, filed}
use Rattle.sb_durable.specs.Segment.{IsBound, Knows, head_of}
use Rattle.sb_durable.specs.declared.segment.error.SegmentError.{SegmentError}
use Rattle.sb_durable.specs.declared.segment.error.SegmentError.TheVariants.{Device, Memory, NotASegment, NotBegun, CutShort, Begun, Damaged, Unsettled, Spent, Full, NoRoom}
use Rattle.sb_durable.specs.declared.segment.reader.RowReader.{RowReader}
use Rattle.sb_durable.proofs.Rows.{row_push, settings_push}

pub refused_of : (error : SegmentError) (file : List ℕ) → (error ≡ NotASegment → IsForeign file) → (error ≡ NotBegun → IsUnbegun file) → (error ≡ CutShort → IsCutHead file)
    → (error ≡ Damaged → (head : Head) (contents : List (List ℕ)) → Stands head contents file → ⊥) → IsRefused error file
refused_of (Device error) file foreign unbegun cut damaged = tt
refused_of Memory file foreign unbegun cut damaged = tt
refused_of NotASegment file foreign unbegun cut damaged = foreign refl
refused_of NotBegun file foreign unbegun cut damaged = unbegun refl
refused_of CutShort file foreign unbegun cut damaged = cut refl
refused_of Begun file foreign unbegun cut damaged = tt
refused_of Damaged file foreign unbegun cut damaged = damaged refl
refused_of Unsettled file foreign unbegun cut damaged = tt
refused_of Spent file foreign unbegun cut damaged = tt
refused_of Full file foreign unbegun cut damaged = tt
refused_of (NoRoom why) file foreign unbegun cut damaged = tt

module _ {D : Type 0} (seen : D → List ℕ) (reader : RowReader D) where
  pub read_first : (settings : List ℕ) (contents : List (List ℕ)) → Knows seen reader.last contents → (head_of reader.last).settings ≡ settings → HasRead seen reader settings [] contents
  read_first settings contents knows same = record { knows = knows; row = (knows.stands.fits, tt, tt); same_settings = (same, tt) }

  pub read_next : (old : RowReader D) (settings : List ℕ) (older : List Filed) (contents others : List (List ℕ)) → HasRead seen old settings older contents → Knows seen reader.last others
      → IsNext (filed old.last contents) (head_of reader.last) → HasRead seen reader settings (older ++ filed old.last contents ∷ []) others
  read_next old settings older contents others has knows next = record {
    knows = knows;
    row = row_push older (filed old.last contents) (filed reader.last others) has.row next knows.stands.fits;
    same_settings = settings_push settings older (filed old.last contents) (filed reader.last others) has.same_settings next.settings;
  }

module _ {D : Type 0} (reader : RowReader D) (bound : IsBound reader.last.beginning reader.last.end) where
  pub binds_first : BindsRow reader []
  binds_first = record { contents = bound.contents; row = (bound.fits, tt, tt); end = bound.binds }

  pub binds_next : (old : RowReader D) (older : List Filed) (was : BindsRow old older) → IsNext (filed old.last was.contents) (head_of reader.last) → BindsRow reader (older ++ filed old.last was.contents ∷ [])
  binds_next old older was next = record {
    contents = bound.contents;
    row = row_push older (filed old.last was.contents) (filed reader.last bound.contents) was.row next bound.fits;
    end = bound.binds;
  }
