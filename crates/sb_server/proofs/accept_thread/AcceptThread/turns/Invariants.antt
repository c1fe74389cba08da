use Rattle.sb_server.specs.Closed.{GainsClosed}
use Rattle.sb_server.proofs.accept_thread.AcceptThread.turns.Given as goal

abbrev pub invariant-loop-turn : goal.invariant-loop-turn
invariant-loop-turn g l = GainsClosed g.D.Doorkeeper.policy l.fn.self.lobby.stubs.items l.self.lobby.stubs.items

-- an event changes no receipts
abbrev pub invariant-loop-event : goal.invariant-loop-event
invariant-loop-event g l = GainsClosed g.D.Doorkeeper.policy l.fn.self.lobby.stubs.items l.self.lobby.stubs.items
