use Rattle.std.proofs.Common.{◌≡◌, ◌+◌, ◌≤◌, ◌++◌, length}
use Rattle.std.specs.Prelude.{vec_capacity, vec_len}
use Rattle.std.specs.Vec.Iter.{into_iter_items, into_iter_len}
use Rattle.sb_host.proofs.VolumeRows.{stubs_of}
use Rattle.sb_host.proofs.volume_stubs.put_stubs.Given as goal

-- the stubs so far, with those of the rows that are left, are those that there were and those of all rows
abbrev pub invariant-loop-receipts : goal.invariant-loop-receipts
invariant-loop-receipts l = record {
  made : l.stubs.items ++ stubs_of l.tenant l.number (into_iter_items l.receipts-iterator) ≡ l.fn.stubs.items ++ stubs_of l.tenant 0 l.fn.rows.items;
  left : into_iter_len l.receipts-iterator ≡ length (into_iter_items l.receipts-iterator);
  numbers : l.number + length (into_iter_items l.receipts-iterator) ≡ 8;
  places : vec_len l.stubs + length (into_iter_items l.receipts-iterator) ≤ vec_capacity l.stubs;
}
