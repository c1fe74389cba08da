use Rattle.sb_tenant.proofs.Resting.{same_pairs}
use Rattle.sb_tenant.proofs.alike.same_catalogs.Goals as goal

pub returns-clause-pairs : goal.returns-clause-pairs
returns-clause-pairs c h =
    same_pairs c.definitions.result.now.order c.definitions-2.result.now.order _ _ _ _ c.definitions.ensures.order c.definitions-2.ensures.order (c.same_definitions.ensures.order h)
