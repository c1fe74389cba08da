use Rattle.std.proofs.Common.{ap, Vec}
use Rattle.std.specs.Global.{Global}
use Rattle.sb_desk.specs.declared.stub.Stub.{Stub}
use Rattle.sb_server.proofs.Gains.{gains_nothing}
use Rattle.sb_server.proofs.worker.Worker.end.Goals as goal

-- there is no such connection
pub returns-in_default-clause-gains : goal.returns-in_default-clause-gains
returns-in_default-clause-gains g c =
    gains_nothing g.D.Doorkeeper.policy c.args.self.now.stubs.items c.take_out.new.self.stubs.items (ap (λ (stubs : Vec Stub Global). stubs.items) c.take_out.ensures.stubs)
