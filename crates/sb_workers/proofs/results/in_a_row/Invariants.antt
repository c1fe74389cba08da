use Rattle.std.proofs.Common.{◌≡◌, ◌≤◌, ◌++◌, Some, map, length, vec_len, vec_capacity}
use Rattle.std.specs.Vec.Iter.{into_iter_items, into_iter_len}
use Rattle.sb_workers.proofs.results.in_a_row.Given as goal

abbrev pub invariant-loop-slot : goal.invariant-loop-slot
invariant-loop-slot g l = record {
  row : map Some l.results.items ++ into_iter_items l.slot-iterator ≡ l.fn.slots.items;
  len : into_iter_len l.slot-iterator ≡ length (into_iter_items l.slot-iterator);
  room : vec_len l.fn.slots ≤ vec_capacity l.results;
}
