use Rattle.std.proofs.Common.{◌∙◌, sym}
use Rattle.sb_net.proofs.Hits.{triggered-at_all, first-found, second-found, third-found}
use Rattle.sb_net.proofs.triggers.is_triggered.Goals as goal

pub returns-then-any_tuple : goal.returns-then-any_tuple
returns-then-any_tuple g c =
    first-found _ _ _ _ (sym c.any_tuple.ensures ∙ c.if-any_tuple.true) (triggered-at_all c.args.triggers c.args.who c.args.table c.args.since (g.L.ChangeLog.records c.args.log.now))

pub returns-then-any_tuple-2 : goal.returns-then-any_tuple-2
returns-then-any_tuple-2 g c =
    second-found _ _ _ _ (sym c.any_tuple-2.ensures ∙ c.if-any_tuple-2.true) (triggered-at_all c.args.triggers c.args.who c.args.table c.args.since (g.L.ChangeLog.records c.args.log.now))

pub returns : goal.returns
returns g c =
    c.any_tuple-3.ensures
    ∙ third-found _ _ _ _ (sym c.any_tuple.ensures ∙ c.if-any_tuple.false) (sym c.any_tuple-2.ensures ∙ c.if-any_tuple-2.false)
    (triggered-at_all c.args.triggers c.args.who c.args.table c.args.since (g.L.ChangeLog.records c.args.log.now))
