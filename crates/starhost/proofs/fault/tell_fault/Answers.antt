use Rattle.std.proofs.Common.{inr}
use Rattle.starhost.proofs.fault.tell_fault.Goals as goal

pub returns-in-Err-clause-tells : goal.returns-in-Err-clause-tells
returns-in-Err-clause-tells g c = inr c.fault.ensures.tells
