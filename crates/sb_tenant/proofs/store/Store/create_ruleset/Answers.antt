use Rattle.sb_tenant.proofs.RulesetCommands.{set_made}
use Rattle.sb_tenant.proofs.store.Store.create_ruleset.Goals as goal

pub returns : goal.returns
returns c = λ index. set_made c.args.self.now index c.args.name c.create.new.self c.requires c.create.result c.create.ensures.added c.create.ensures.allowed c.create.ensures.refused c.create.ensures.unchanged
