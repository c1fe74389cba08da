use Rattle.std.proofs.Common.{◌≤◌, ◌∙◌, ap, arith, length, List, ℕ, not, ◌&&◌, ◌==◌}
use Rattle.std.proofs.lemmas.List.{take_all}
use Rattle.std.specs.List.{list_any}
use Rattle.sb_value.specs.Flags.{flag_at}
use Rattle.sb_priority.proofs.RowLaws.{less_more}
use Rattle.sb_priority.proofs.pairs.row_less.Goals as goal

pub loop-other-preserved : goal.loop-other-preserved
loop-other-preserved c =
    less_more (flag_at c.args.row) (flag_at c.loop-other.kept) (flag_at c.without-kept.result) c.args.others.now c.loop-other.other-index c.other-item.result (omega arith) c.other-item.is c.loop-other.invariant c.without-kept.ensures.members

pub returns : goal.returns
returns c a =
    let past : length c.args.others.now ≤ c.loop-other.other-index = omega arith in
    c.loop-other.invariant a ∙ ap (λ (xs : List ℕ). flag_at c.args.row a && not (list_any (λ o. o == a) xs)) (take_all c.loop-other.other-index c.args.others.now past)
