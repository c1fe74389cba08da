use Rattle.std.proofs.Common.{◌∙◌, ap, ℕ, List, map, ◌++◌, arith, length, ◌≤◌}
use Rattle.std.proofs.lemmas.List.{take_all}
use Rattle.sb_priority.specs.Closed.{has_pair}
use Rattle.sb_priority.proofs.RowLaws.{linked_more}
use Rattle.sb_priority.proofs.pairs.Pairs.trail.Goals as goal

pub loop-other-preserved : goal.loop-other-preserved
loop-other-preserved c pairs h =
    linked_more (λ o. (o, c.args.rule)) c.loop-other.self c.link.new.self pairs c.args.others.now c.loop-other.other-index c.other-item.result (omega arith) c.other-item.is (c.loop-other.invariant pairs h) c.link.ensures

pub returns : goal.returns
returns c pairs h a b =
    let past : length c.args.others.now ≤ c.loop-other.other-index = omega arith in
    c.loop-other.invariant pairs h a b
    ∙ ap (λ (xs : List ℕ). has_pair (pairs ++ map (λ o. (o, c.args.rule)) xs) a b) (take_all c.loop-other.other-index c.args.others.now past)
