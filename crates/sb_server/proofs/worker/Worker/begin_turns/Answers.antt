use Rattle.std.proofs.Common.{arith}
use Rattle.sb_server.proofs.Gains.{gains_then}
use Rattle.sb_server.proofs.worker.Worker.begin_turns.Goals as goal

pub loop-place-preserved : goal.loop-place-preserved
loop-place-preserved g c = (
  gains_then g.D.Doorkeeper.policy c.args.self.now.stubs.items c.loop-place.self.stubs.items c.begin_turn.new.self.stubs.items c.loop-place.invariant.0 c.begin_turn.ensures.gains,
  omega arith,
)
