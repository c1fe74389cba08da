use Rattle.std.proofs.Common.{◌<◌, ◌++◌, length, arith}
use Rattle.std.specs.Prelude.{option_to_list}
use Rattle.sb_durable.specs.Records.{entry_of}
use Rattle.sb_durable.proofs.Calls.{becomes, items_of, set_changed}
use Rattle.sb_durable.proofs.record_player.Player.settle.Goals as goal

pub returns-in-Ok : goal.returns-in-Ok
returns-in-Ok g c =
    let was = c.args.self.now in
    let called = c.args.called in
    let line = c.args.line in
    let within : line.tenant < length was.stubs.items = omega (arith, c.requires.within.0, was.each) in
    becomes g.H.Session.Calling.seen was.sessions.items was.stubs.items _ was.reaches.items c.count_step.new.reaches.items (entry_of line) c.args.place called.session called.number called.stub c.requires.place
    (set_changed items_of (λ own. own ++ option_to_list called.stub) line.tenant was.stubs.items c.index_mut-2.result.now c.add.new.stubs within c.index_mut-2.ensures.value (c.in-Ok.ensures)) c.count_step.ensures.counted
