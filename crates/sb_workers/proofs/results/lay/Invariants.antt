use Rattle.std.proofs.Common.{◌≡◌, length, vec_len}
use Rattle.std.specs.Vec.Iter.{into_iter_items, into_iter_len}
use Rattle.sb_workers.proofs.Laying.{Laying}
use Rattle.sb_workers.proofs.results.lay.Given as goal

abbrev pub invariant-loop-placed : goal.invariant-loop-placed
invariant-loop-placed g l = record {
  laying : Laying l.fn.done.items (into_iter_items l.placed-iterator) l.slots.items;
  slots : vec_len l.slots ≡ vec_len l.initial.slots;
  len : into_iter_len l.placed-iterator ≡ length (into_iter_items l.placed-iterator);
}
