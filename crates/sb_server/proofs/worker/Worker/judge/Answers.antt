use Rattle.sb_server.proofs.Gains.{gains_then}
use Rattle.sb_server.proofs.worker.Worker.judge.Goals as goal

pub returns-in-Some-clause-gains : goal.returns-in-Some-clause-gains
returns-in-Some-clause-gains g c = gains_then g.D.Doorkeeper.policy c.args.self.now.stubs.items c.serve_apart.new.self.stubs.items c.end.new.self.stubs.items c.serve_apart.ensures.gains c.end.ensures.gains
