use Rattle.std.proofs.Common.{◌∙◌, sym}
use Rattle.sb_net.proofs.Hits.{triggered_as, first-found, second-found, third-found}
use Rattle.sb_net.proofs.triggers.is_triggered_anew.Goals as goal

pub returns-then-is_witnessed : goal.returns-then-is_witnessed
returns-then-is_witnessed g c = sym (c.is_witnessed.ensures c.if-is_witnessed.true)

pub returns-then-any_asked : goal.returns-then-any_asked
returns-then-any_asked g c =
    first-found _ _ _ _ (sym c.any_asked.ensures ∙ c.if-any_asked.true)
    (triggered_as c.args.triggers (record { who = c.args.who; table = c.args.table; since = c.args.since }) c.args.tested c.now-now.result (g.L.ChangeLog.records c.args.log.now) c.new_changes_trigger.ensures c.now-now.ensures.times c.now-now.ensures.rising c.requires.times c.requires.lives c.requires.untriggered)

pub returns-then-any_asked-2 : goal.returns-then-any_asked-2
returns-then-any_asked-2 g c =
    second-found _ _ _ _ (sym c.any_asked-2.ensures ∙ c.if-any_asked-2.true)
    (triggered_as c.args.triggers (record { who = c.args.who; table = c.args.table; since = c.args.since }) c.args.tested c.now-now.result (g.L.ChangeLog.records c.args.log.now) c.new_changes_trigger.ensures c.now-now.ensures.times c.now-now.ensures.rising c.requires.times c.requires.lives c.requires.untriggered)

pub returns : goal.returns
returns g c =
    c.any_asked-3.ensures
    ∙ third-found _ _ _ _ (sym c.any_asked.ensures ∙ c.if-any_asked.false) (sym c.any_asked-2.ensures ∙ c.if-any_asked-2.false)
    (triggered_as c.args.triggers (record { who = c.args.who; table = c.args.table; since = c.args.since }) c.args.tested c.now-now.result (g.L.ChangeLog.records c.args.log.now) c.new_changes_trigger.ensures c.now-now.ensures.times c.now-now.ensures.rising c.requires.times c.requires.lives c.requires.untriggered)
