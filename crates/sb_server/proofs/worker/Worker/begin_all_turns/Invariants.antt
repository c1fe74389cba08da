use Rattle.sb_server.specs.Closed.{GainsClosed}
use Rattle.sb_server.specs.Sessions.{KeepsSessions}
use Rattle.sb_server.proofs.worker.Worker.begin_all_turns.Given as goal

abbrev pub invariant-loop-key : goal.invariant-loop-key
invariant-loop-key g l =
    GainsClosed g.D.Doorkeeper.policy l.fn.self.stubs.items l.self.stubs.items
    × KeepsSessions l.fn.self.client_connections l.self.client_connections (λ v. v.value.connection.attached) l.fn.self.stubs.items l.self.stubs.items
