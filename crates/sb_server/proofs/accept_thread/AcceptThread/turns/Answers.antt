use Rattle.sb_server.proofs.Gains.{gains_nothing, gains_then}
use Rattle.sb_server.proofs.accept_thread.AcceptThread.turns.Goals as goal

-- events, newcomers, turns of those that open no session, and those that were silent
pub loop-turn-preserved : goal.loop-turn-preserved
loop-turn-preserved g c =
    let old = c.args.self.now.lobby.stubs.items in
    let event = c.loop-event.self.lobby.stubs.items in
    let taken = c.take_some.new.self.lobby.stubs.items in
    let served = c.serve_due.new.self.stubs.items in
    let swept = c.sweep.new.self.stubs.items in
    let last = c.sweep-in-loop-turn.new.self.lobby.stubs.items in
    gains_then g.D.Doorkeeper.policy old swept last
    (gains_then g.D.Doorkeeper.policy old served swept (gains_then g.D.Doorkeeper.policy old taken served (gains_then g.D.Doorkeeper.policy old event taken c.loop-event.invariant (gains_nothing g.D.Doorkeeper.policy event taken c.take_some.ensures)) c.serve_due.ensures.gains) c.sweep.ensures.gains)
    (gains_nothing g.D.Doorkeeper.policy swept last c.sweep-in-loop-turn.ensures)
