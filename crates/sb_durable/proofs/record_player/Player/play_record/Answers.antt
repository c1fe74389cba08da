use Rattle.std.proofs.Common.{◌+◌, ◌*◌, ◌<◌, length, arith}
use Rattle.std.proofs.lemmas.Result.{on_ok_weaker}
use Rattle.sb_durable.specs.Records.{entry_of}
use Rattle.sb_durable.proofs.Calls.{begun_on, played_on, renewed_on}
use Rattle.sb_durable.proofs.record_player.Player.play_record.Goals as goal

pub returns-then-line-ge-SESSION_LIMIT : goal.returns-then-line-ge-SESSION_LIMIT
returns-then-line-ge-SESSION_LIMIT g c =
    let was = c.args.self.now in
    on_ok_weaker c.renew.result
    (renewed_on g.H.Session.Calling.seen was.sessions.items was.stubs.items was.reaches.items (entry_of c.args.line) _ (omega (arith, c.if-tenant-len.false, c.len.ensures))) c.renew.ensures.renews

pub returns-in-Ok : goal.returns-in-Ok
returns-in-Ok g c =
    let seen = g.H.Session.Calling.seen in
    let was = c.args.self.now in
    let line = c.args.line in
    let there : c.args.line.tenant < length was.reaches.items = omega (arith, c.if-tenant-len.false, c.len.ensures) in
    let one : c.args.line.session < 8 = omega (arith, c.if-line-ge-SESSION_LIMIT.false) in
    let called = c.in-Ok.called in
    on_ok_weaker c.settle.result
    (played_on seen was.sessions.items was.stubs.items was.reaches.items (entry_of line) (8 * line.tenant + line.session) (omega arith) _ c.take_at.result c.in-Some.session c.take_at.new.sessions.items there one
    c.take_at.ensures.taken c.in-Some.is c.take_at.ensures.left called.session called.number called.stub c.in-Ok.ensures) c.settle.ensures

pub returns-in-None : goal.returns-in-None
returns-in-None g c =
    let seen = g.H.Session.Calling.seen in
    let was = c.args.self.now in
    let line = c.args.line in
    let there : c.args.line.tenant < length was.reaches.items = omega (arith, c.if-tenant-len.false, c.len.ensures) in
    let one : c.args.line.session < 8 = omega (arith, c.if-line-ge-SESSION_LIMIT.false) in
    let within : 8 * line.tenant + line.session < length was.sessions.items = omega (arith, there, one, was.eight) in
    on_ok_weaker c.begin.result
    (begun_on seen was.sessions.items was.stubs.items was.reaches.items (entry_of line) (8 * line.tenant + line.session) (omega arith) _ c.take_at.result c.take_at.new.sessions.items there one within
    c.take_at.ensures.taken c.in-None.is c.take_at.ensures.left) c.begin.ensures
