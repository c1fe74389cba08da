use Rattle.std.proofs.Common.{◌∙◌, ap, Vec}
use Rattle.std.specs.Global.{Global}
use Rattle.sb_desk.specs.declared.stub.Stub.{Stub}
use Rattle.sb_server.proofs.Gains.{gains_nothing}
use Rattle.sb_server.proofs.worker.Worker.give_out.Goals as goal

-- nothing is closed
pub returns-in-Waits-clause-gains : goal.returns-in-Waits-clause-gains
returns-in-Waits-clause-gains g c =
    gains_nothing g.D.Doorkeeper.policy c.args.self.now.stubs.items c.put_back.new.self.stubs.items
    (ap (λ (stubs : Vec Stub Global). stubs.items) (c.put_back.ensures.stubs ∙ c.take_out.ensures.stubs))

pub returns-in-GoesOn-clause-gains : goal.returns-in-GoesOn-clause-gains
returns-in-GoesOn-clause-gains g c =
    gains_nothing g.D.Doorkeeper.policy c.args.self.now.stubs.items c.put_due.new.self.stubs.items
    (ap (λ (stubs : Vec Stub Global). stubs.items) (c.put_due.ensures.others.0 ∙ c.take_out.ensures.stubs))
