use Rattle.std.proofs.Common.{◌∙◌, inr, ap, sym, Err}
use Rattle.sb_connection.specs.Traffic.{blocks}
use Rattle.sb_server.proofs.Carrying.{sends_more, sends_same}
use Rattle.sb_server.proofs.Failing.{ends_by_write}
use Rattle.sb_server.proofs.client_connection.ClientConnection.send.Goals as goal

-- each write sends some
pub loop-self-preserved : goal.loop-self-preserved
loop-self-preserved g c =
    let was = c.loop-self.invariant in
    let sent = c.in-Ok.ensures in (
      sends_more c.args.self.now.connection c.loop-self.self.connection c.send_once.new.self.connection c.in-Ok.field-0 was.0 sent.sent,
      sent.others.0 ∙ was.1,
      sent.others.1 ∙ was.2,
      sent.others.2 ∙ was.3,
    )

-- one that is to be made again
pub returns-in-WouldBlock : goal.returns-in-WouldBlock
returns-in-WouldBlock g c =
    let was = c.loop-self.invariant in
    let before = c.loop-self.self in
    let sent = c.in-Err.ensures in
    record {
      sends = sends_same c.args.self.now.connection before.connection c.send_once.new.self.connection was.0 sent.sent;
      all = inr ((g.S.Stream.traffic before.stream).writes, (before.connection.pending, Err c.in-Err.error), ap (λ t. t.writes) sent.traffic, ap blocks (sym c.in-WouldBlock.ensures));
      fault = tt;
      others = (sent.others.0 ∙ was.1, sent.others.1 ∙ was.2, sent.others.2 ∙ was.3);
    }

-- one that failed
pub returns-in_default : goal.returns-in_default
returns-in_default g c =
    let was = c.loop-self.invariant in
    let sent = c.in-Err.ensures in
    record {
      sends = sends_same c.args.self.now.connection c.loop-self.self.connection c.send_once.new.self.connection was.0 sent.sent;
      all = tt;
      fault = ends_by_write (g.S.Stream.traffic c.loop-self.self.stream) (g.S.Stream.traffic c.send_once.new.self.stream) c.send_once.new.self.connection c.send_once.new.self.is_cut c.fault-in_default.result c.loop-self.self.connection.pending c.in-Err.error c.kind.result sent.traffic c.kind.ensures c.in_default.not-WouldBlock _ c.fault-in_default.ensures;
      others = (sent.others.0 ∙ was.1, sent.others.1 ∙ was.2, sent.others.2 ∙ was.3);
    }
