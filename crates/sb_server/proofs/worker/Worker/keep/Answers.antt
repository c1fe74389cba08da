use Rattle.std.proofs.Common.{refl}
use Rattle.sb_server.proofs.worker.Worker.keep.Goals as goal

pub returns-then-is_empty-clause-others : goal.returns-then-is_empty-clause-others
returns-then-is_empty-clause-others g c = (refl, refl)

pub returns-then-not-keep-clause-others : goal.returns-then-not-keep-clause-others
returns-then-not-keep-clause-others g c = (refl, refl)

pub returns-clause-all : goal.returns-clause-all
returns-clause-all g c = λ kept. c.clear.ensures.items

pub returns-clause-others : goal.returns-clause-others
returns-clause-others g c = (refl, refl)
