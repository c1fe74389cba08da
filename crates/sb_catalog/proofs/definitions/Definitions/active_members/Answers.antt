use Rattle.std.proofs.Common.{◌∙◌, sym}
use Rattle.sb_catalog.proofs.NewRules.{a_ruleset, no_ruleset}
use Rattle.sb_catalog.proofs.definitions.Definitions.active_members.Goals as goal

pub returns-in-Some-clause-known : goal.returns-in-Some-clause-known
returns-in-Some-clause-known c = a_ruleset c.args.self.now.rulesets c.args.set.now c.in-Some.members (sym c.members.ensures.members ∙ c.in-Some.is)

pub returns-in-None-clause-members : goal.returns-in-None-clause-members
returns-in-None-clause-members c = no_ruleset c.args.self.now.rulesets c.args.set.now (sym c.members.ensures.members ∙ c.in-None.is)
