use Rattle.sb_tenant.proofs.AlikeAnswering.{alike-lines}
use Rattle.sb_tenant.proofs.alike.laws.alike_answer_alike.Goals as goal

pub returns : goal.returns
returns c = alike-lines c.precedes_is_closure.ensures c.least_free_is_least.ensures.least
