use Rattle.std.proofs.Common.{eqb, ◌∙◌}
use Rattle.std.proofs.lemmas.List.Filters.{dedup_is}
use Rattle.sb_net.proofs.Tuples.{sorted_tuples, pushed}
use Rattle.sb_net.proofs.transition.tuples_of.Goals as goal

-- the numbers that were sorted are those of the three walks, one after the other
pub returns : goal.returns
returns g c =
    let sorted = c.sort_unstable.new.self.items in
    dedup_is eqb sorted c.dedup.new.self.items c.dedup.ensures.filtered
    ∙ sorted_tuples c.args.scope.now.who c.args.scope.now.table c.args.scope.now.since (g.L.ChangeLog.records c.args.log.now) c.push_tuples-3.new.tuples.items sorted
    (pushed _ _ _ _ _ _ _ c.new-tuples.ensures.items c.in_ok-push_tuples.ensures c.in_ok-push_tuples-2.ensures c.in_ok-push_tuples-3.ensures) c.sort_unstable.ensures.permutation c.sort_unstable.ensures.sorted
