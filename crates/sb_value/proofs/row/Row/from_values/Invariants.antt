use Rattle.std.proofs.Common.{◌≡◌, take, length, max}
use Rattle.sb_value.proofs.row.Row.from_values.Given as goal

abbrev pub invariant-loop-value : goal.invariant-loop-value
invariant-loop-value l = record {
  items : l.list.items ≡ take l.value-index l.values;
  capacity : l.list.capacity ≡ max 2 (length l.values);
}
