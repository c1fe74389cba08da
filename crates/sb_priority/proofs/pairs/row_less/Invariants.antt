use Rattle.std.proofs.Common.{◌≡◌, ℕ, take, not, ◌&&◌, ◌==◌}
use Rattle.std.specs.List.{list_any}
use Rattle.sb_value.specs.Flags.{flag_at}
use Rattle.sb_priority.proofs.pairs.row_less.Given as goal

abbrev pub invariant-loop-other : goal.invariant-loop-other
invariant-loop-other l = (a : ℕ) → flag_at l.kept a ≡ (flag_at l.fn.row a && not (list_any (λ o. o == a) (take l.other-index l.others)))
