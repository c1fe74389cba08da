use Rattle.std.proofs.Common.{◌≡◌, ℕ, [], get_or, nat_lt, not, ◌&&◌, ◌==◌}
use Rattle.sb_value.specs.Flags.{flag_at}
use Rattle.sb_index.proofs.table.drop_from.Given as goal

-- the columns that were passed lack the rule
abbrev pub invariant-loop-place : goal.invariant-loop-place
invariant-loop-place l = (k r : ℕ) → flag_at (get_or l.columns k []) r ≡ (flag_at (get_or l.initial.columns k []) r && not ((r == l.rule) && nat_lt k l.place))
