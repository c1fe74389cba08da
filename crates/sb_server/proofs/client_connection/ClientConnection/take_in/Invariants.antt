use Rattle.std.proofs.Common.{◌≡◌, true}
use Rattle.sb_server.proofs.client_connection.ClientConnection.take_in.Given as goal

-- a session that was open is open, and nothing is sent
abbrev pub invariant-loop-read : goal.invariant-loop-read
invariant-loop-read g l = record {
  stays : l.fn.self.connection.attached ≡ true → l.self.connection.attached ≡ true;
  unsent : l.self.connection.handed ≡ l.fn.self.connection.handed;
  others : (l.self.tenant ≡ l.fn.self.tenant) × (l.self.is_ended ≡ l.fn.self.is_ended);
}
