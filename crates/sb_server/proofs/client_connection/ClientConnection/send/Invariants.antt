use Rattle.std.proofs.Common.{◌≡◌, length}
use Rattle.sb_server.specs.ClientConnections.{SendsSome}
use Rattle.sb_server.proofs.client_connection.ClientConnection.send.Given as goal

abbrev pub invariant-loop-self : goal.invariant-loop-self
invariant-loop-self g l =
    SendsSome l.fn.self.connection l.self.connection × (l.self.is_cut ≡ l.fn.self.is_cut) × (l.self.is_ended ≡ l.fn.self.is_ended) × (l.self.tenant ≡ l.fn.self.tenant)

-- each write sends some of what waits
abbrev pub decreases-loop-self : goal.decreases-loop-self
decreases-loop-self g l = length l.self.connection.pending
