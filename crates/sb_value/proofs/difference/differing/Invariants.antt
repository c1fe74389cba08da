use Rattle.std.specs.Prelude.{◌&&◌, nat_lt}
use Rattle.std.proofs.Common.{◌≡◌}
use Rattle.sb_value.specs.Columns.{set_where, differ_at}
use Rattle.sb_value.proofs.difference.differing.Given as goal

-- the columns so far
abbrev pub invariant-loop-place : goal.invariant-loop-place
invariant-loop-place l = l.columns ≡ set_where (λ k. nat_lt k l.place && differ_at l.old l.new k)
