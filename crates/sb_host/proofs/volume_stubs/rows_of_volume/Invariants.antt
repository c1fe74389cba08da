use Rattle.std.proofs.Common.{◌≡◌, ℕ, ◌+◌, ◌≤◌, ◌<◌, ◌++◌, length}
use Rattle.std.specs.Prelude.{vec_capacity, vec_len}
use Rattle.std.specs.List.Sorted.{IsPermutation}
use Rattle.std.specs.Vec.Iter.{into_iter_items, into_iter_len}
use Rattle.sb_host.specs.Finish.{gathered, row_at}
use Rattle.sb_host.specs.Renewal.{AreOf}
use Rattle.sb_host.proofs.volume_stubs.rows_of_volume.Given as goal

-- each session has its receipts in its row, among those that are given back, and in what is left
abbrev pub invariant-loop-stub : goal.invariant-loop-stub
invariant-loop-stub l = record {
  count : length l.rows.items ≡ 8;
  held : (s : ℕ) → s < 8 → IsPermutation (gathered l.tenant s l.fn.stubs.items) ((row_at l.rows.items s ++ gathered l.tenant s l.left.items) ++ gathered l.tenant s (into_iter_items l.stub-iterator));
  back : AreOf l.tenant l.left.items;
  rest : AreOf l.tenant (into_iter_items l.stub-iterator);
  numbers : into_iter_len l.stub-iterator ≡ length (into_iter_items l.stub-iterator);
  room : vec_len l.left + 8 + length (into_iter_items l.stub-iterator) ≤ vec_capacity l.left;
}
