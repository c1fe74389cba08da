-- Machine: what the fields of a sheet are seen as.
use Rattle.std.specs.Vec.Iter.{into_iter_items}
use Rattle.sb_replay.specs.declared.sheet.Sheet.TheInside.{Inside}
use Rattle.sb_replay.specs.Sheets.{Sheet, lines_of}

abbrev pub seen : Inside → Sheet
seen s = record {
  tenant = s.tenant;
  number = s.number;
  left = lines_of (into_iter_items s.commands);
  text = s.text.items;
  is_full = s.is_full;
}
