use Rattle.sb_server.proofs.Gains.{gains_nothing, gains_then}
use Rattle.sb_server.proofs.worker.Worker.serve_due.Goals as goal

pub returns-clause-gains : goal.returns-clause-gains
returns-clause-gains g c =
    let old = c.args.self.now.stubs.items in
    let kept = c.keep.new.self.stubs.items in
    gains_then g.D.Doorkeeper.policy old kept c.give_turns.new.self.stubs.items (gains_nothing g.D.Doorkeeper.policy old kept c.keep.ensures.others.0) c.give_turns.ensures.gains
