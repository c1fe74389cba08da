use Rattle.std.proofs.lemmas.Result.{on_ok_weaker}
use Rattle.sb_host.proofs.Numbers.{called}
use Rattle.sb_host.proofs.locks.enter_in.Goals as goal

pub returns-clause-ok : goal.returns-clause-ok
returns-clause-ok g c = on_ok_weaker c.enter.result (called c.answers_are_numbered.ensures c.deref_mut.result.now c.args.r.now c.enter.new.self c.enter.new.r) c.enter.ensures.ok
