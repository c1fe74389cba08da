use Rattle.sb_tenant.proofs.RulesetCommands.{set_left}
use Rattle.sb_tenant.proofs.store.Store.drop_ruleset.Goals as goal

pub returns : goal.returns
returns c =
    λ index. set_left c.args.self.now index c.args.name.now c.drop_set.new.self c.requires c.drop_set.result c.drop_set.ensures.known c.drop_set.ensures.dropped c.drop_set.ensures.refused c.drop_set.ensures.unchanged
