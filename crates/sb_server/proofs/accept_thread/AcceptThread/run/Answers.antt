use Rattle.sb_server.proofs.Gains.{gains_nothing, gains_then}
use Rattle.sb_server.proofs.accept_thread.AcceptThread.run.Goals as goal

pub returns : goal.returns
returns g c =
    let old = c.args.self.now.lobby.stubs.items in
    let met = c.meet.new.self.stubs.items in
    let served = c.serve.new.self.lobby.stubs.items in
    gains_then g.D.Doorkeeper.policy old served c.close_all.new.self.stubs.items (gains_then g.D.Doorkeeper.policy old met served (gains_nothing g.D.Doorkeeper.policy old met c.meet.ensures.0) c.serve.ensures) c.close_all.ensures.gains
