use Rattle.std.proofs.Common.{◌≡◌, ◌+◌, ◌≤◌, length, true}
use Rattle.sb_connection.specs.Admission.{LetsIn}
use Rattle.sb_connection.specs.History.{SameStreams, pending_limit}
use Rattle.sb_connection.specs.ProtocolState.{Holds}
use Rattle.sb_connection.proofs.connection.Connection.advance.Given as goal

abbrev pub invariant-loop-line : goal.invariant-loop-line
invariant-loop-line g l = record {
  streams : SameStreams l.fn.self l.self-inside.protocol_state.history;
  holds : Holds g.D.Doorkeeper.policy.admits l.self-inside.protocol_state;
  lets : LetsIn g.D.Doorkeeper.policy.admits l.fn.self l.self-inside.protocol_state.history;
  stays : l.fn.self.attached ≡ true → l.self-inside.protocol_state.history.attached ≡ true;
  full : pending_limit ≤ length l.fn.self.pending → l.self-inside.protocol_state.history ≡ l.fn.self;
  goes : length l.self-inside.protocol_state.history.waiting + l.line ≤ length l.fn.self.waiting;
}
