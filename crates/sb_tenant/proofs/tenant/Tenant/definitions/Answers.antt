use Rattle.std.proofs.Common.{◌∙◌, ap, subst}
use Rattle.sb_catalog.specs.Definitions.{AreOrdered}
use Rattle.sb_tenant.specs.Tenant.{Tenant, state}
use Rattle.sb_tenant.proofs.tenant.Tenant.definitions.Goals as goal

pub returns-clause-rules : goal.returns-clause-rules
returns-clause-rules c = c.self.invariant.holds.1.rules ∙ ap (λ t. (state t).catalog.rules) c.self.view_is

pub returns-clause-order : goal.returns-clause-order
returns-clause-order c =
    subst (λ (t : Tenant). AreOrdered c.self.inside.store.definitions.order (state t).catalog.rules (state t).catalog.pairs) c.self.view_is c.self.invariant.holds.1.ordered

pub returns-clause-rulesets : goal.returns-clause-rulesets
returns-clause-rulesets c = c.self.invariant.holds.1.rulesets ∙ ap (λ t. (state t).catalog.rulesets) c.self.view_is
