-- Machine: laws of stored tables, as statements.
use Rattle.std.specs.Prelude.{◌≡◌, Contains}
use Rattle.sb_value.specs.Table.{Table, fits_kind}
use Rattle.sb_value.specs.declared.change.Change.{Change}
use Rattle.sb_tables.specs.Stored.{Stored, IsStored}
use Rattle.sb_tables.specs.Undo.{IsBefore, stored_after}

-- a change that can be made of a stored table leaves a stored one, in which its tuple has a place
abbrev pub ChangesKeepPlaces : Type 0
ChangesKeepPlaces =
    (c : Change) (s : Stored) → IsStored s → fits_kind c.kind c s.table → IsStored (stored_after c s) × Contains (stored_after c s).places c.tuple

-- the table before a change is determined by the change and the table now
abbrev pub TablesBeforeAreOne : Type 0
TablesBeforeAreOne = (c : Change) (now one other : Table) → IsBefore c now one → IsBefore c now other → one ≡ other
