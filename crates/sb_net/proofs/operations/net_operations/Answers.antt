use Rattle.std.proofs.Common.{◌∙◌}
use Rattle.sb_net.proofs.Hits.{met_as}
use Rattle.sb_net.proofs.MaskLaws.{three_met}
use Rattle.sb_net.proofs.operations.net_operations.Goals as goal

pub returns : goal.returns
returns g c = λ t quiet.
    three_met _ _ _ _ _ _ _ (c.no_operations-found.ensures t) (c.add_kind.ensures t) (c.add_kind-2.ensures t) (c.add_kind-3.ensures t)
    ∙ met_as t (record { who = c.args.who; table = c.args.table; since = c.args.since }) c.args.tested c.now-now.result (g.L.ChangeLog.records c.args.log.now) c.new_changes_trigger.ensures c.now-now.ensures.times c.now-now.ensures.rising c.requires.times c.requires.lives quiet
