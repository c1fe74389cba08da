use Rattle.std.proofs.Common.{subst}
use Rattle.sb_durable.specs.Head.{IsUnbegun, Stands}
use Rattle.sb_durable.proofs.row_reading.oldest.Goals as goal

pub returns-in-Ok-clause-knows : goal.returns-in-Ok-clause-knows
returns-in-Ok-clause-knows g c clean head contents stands =
    let found = c.in-Ok.ensures.ok clean head contents (subst (λ f. Stands head contents f) c.in-Ok.ensures.same.0 stands) in found.1.knows

pub returns-in-Ok-clause-begun : goal.returns-in-Ok-clause-begun
returns-in-Ok-clause-begun g c clean unbegun = c.in-Ok.ensures.begun clean (subst IsUnbegun c.in-Ok.ensures.same.0 unbegun)
