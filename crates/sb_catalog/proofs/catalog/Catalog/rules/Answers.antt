use Rattle.std.proofs.Common.{subst}
use Rattle.sb_catalog.specs.Rules.{AreNumbered}
use Rattle.sb_catalog.proofs.Noted.{noted_numbers}
use Rattle.sb_catalog.proofs.catalog.Catalog.rules.Goals as goal

pub returns-clause-numbered : goal.returns-clause-numbered
returns-clause-numbered c = subst AreNumbered c.self.view_is (noted_numbers c.self.inside.places 0 _ c.self.invariant.noted)
