use Rattle.sb_server.proofs.Gains.{gains_then}
use Rattle.sb_server.proofs.worker.Worker.begin_turn.Goals as goal

-- the second part behind the first
pub returns-clause-gains : goal.returns-clause-gains
returns-clause-gains g c =
    gains_then g.D.Doorkeeper.policy c.args.self.now.stubs.items c.take_in.new.self.stubs.items c.give_out.new.self.stubs.items c.take_in.ensures.gains c.give_out.ensures.gains
