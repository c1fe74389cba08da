use Rattle.std.proofs.Common.{◌≡◌, ℕ, ◌*◌, ◌<◌, ◌++◌, length}
use Rattle.std.specs.Vec.Iter.{into_iter_items, into_iter_len}
use Rattle.sb_host.specs.Finish.{gathered, rank, row_at}
use Rattle.sb_host.proofs.gathering.rows_of.Given as goal

-- each row stands before the receipts of the stubs that are left
abbrev pub invariant-loop-stub : goal.invariant-loop-stub
invariant-loop-stub l = record {
  count : length l.rows.items ≡ 8 * l.tenants;
  rows : (t s : ℕ) → t < l.tenants → s < 8 → row_at l.rows.items (rank t s) ++ gathered t s (into_iter_items l.stub-iterator) ≡ gathered t s (into_iter_items l.initial.stub-iterator);
  left : into_iter_len l.stub-iterator ≡ length (into_iter_items l.stub-iterator);
}
