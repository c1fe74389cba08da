use Rattle.std.proofs.Common.{◌∙◌, arith}
use Rattle.sb_server.proofs.Gains.{gains_then}
use Rattle.sb_server.proofs.worker.Worker.end_turns.Goals as goal

pub loop-key-preserved : goal.loop-key-preserved
loop-key-preserved g c = (
  gains_then g.D.Doorkeeper.policy c.args.self.now.stubs.items c.loop-key.self.stubs.items c.give_out.new.self.stubs.items c.loop-key.invariant.0 c.give_out.ensures.gains,
  omega arith,
  c.give_out.ensures.answered ∙ c.loop-key.invariant.2,
)

-- all do it behind those that were named
pub returns-then-all-clause-gains : goal.returns-then-all-clause-gains
returns-then-all-clause-gains g c =
    gains_then g.D.Doorkeeper.policy c.args.self.now.stubs.items c.loop-key.self.stubs.items c.end_all_turns.new.self.stubs.items c.loop-key.invariant.0 c.end_all_turns.ensures.gains
