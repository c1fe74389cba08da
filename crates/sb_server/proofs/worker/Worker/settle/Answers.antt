use Rattle.std.proofs.Common.{refl, sym, None, Some, append-nil}
use Rattle.sb_server.specs.Sockets.{traffic}
use Rattle.sb_server.proofs.Gains.{gains_left, gains_nothing}
use Rattle.sb_server.proofs.worker.Worker.settle.Goals as goal

-- it had a session
pub returns-in-Some-clause-left : goal.returns-in-Some-clause-left
returns-in-Some-clause-left g c = (Some c.in-Some.stub, c.in-Some.ensures.leaves, c.push_reserved.ensures.items)

pub returns-in-Some-clause-gains : goal.returns-in-Some-clause-gains
returns-in-Some-clause-gains g c =
    let client_connection = c.args.client_connection in
    gains_left g.D.Doorkeeper.policy c.args.self.now.stubs.items c.push_reserved.new.self.items (traffic client_connection.stream) client_connection.connection client_connection.is_cut c.in-Some.stub c.in-Some.ensures.leaves c.push_reserved.ensures.items

-- it had none
pub returns-in_default-clause-left : goal.returns-in_default-clause-left
returns-in_default-clause-left g c = (None, c.in_default.ensures.leaves, sym (append-nil c.args.self.now.stubs.items))

pub returns-in_default-clause-gains : goal.returns-in_default-clause-gains
returns-in_default-clause-gains g c = gains_nothing g.D.Doorkeeper.policy c.args.self.now.stubs.items c.args.self.now.stubs.items refl
