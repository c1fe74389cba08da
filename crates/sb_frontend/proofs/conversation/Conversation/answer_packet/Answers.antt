use Rattle.std.proofs.Common.{ap, map, refl}
use Rattle.sb_postgres.specs.Startup.{GssEncRequest, SslRequest, Startup, pair_seen, started}
use Rattle.sb_frontend.specs.Conversations.{AnswersPacket, Standing}
use Rattle.sb_frontend.proofs.Conversing.{as-packet, sends-byte, starts-by, talking}
use Rattle.sb_frontend.proofs.conversation.Conversation.answer_packet.Goals as goal

pub returns-in-SslRequest : goal.returns-in-SslRequest
returns-in-SslRequest g c =
    let source = g.O.SessionSource.source in
    let at : Standing = record { phase = c.self.inside.phase; spot = c.self.inside.speaker; work = c.self.inside.work } in
    rw (← c.self.view_is) (as-packet source (started c.args.packet.now) SslRequest (talking at c.self.inside.out) (talking at c.say_byte.new.self) (ap started c.in-SslRequest.is)
    (sends-byte (AnswersPacket source SslRequest) 78 (talking at c.self.inside.out) c.say_byte.new.self (refl, refl) c.say_byte.ensures))

pub returns-in-GssEncRequest : goal.returns-in-GssEncRequest
returns-in-GssEncRequest g c =
    let source = g.O.SessionSource.source in
    let self = c.self-in-GssEncRequest in
    let new = c.say_byte-in-GssEncRequest in
    let at : Standing = record { phase = self.inside.phase; spot = self.inside.speaker; work = self.inside.work } in
    rw (← self.view_is) (as-packet source (started c.args.packet.now) GssEncRequest (talking at self.inside.out) (talking at new.new.self) (ap started c.in-GssEncRequest.is)
    (sends-byte (AnswersPacket source GssEncRequest) 78 (talking at self.inside.out) new.new.self (refl, refl) new.ensures))

pub returns-in-Startup : goal.returns-in-Startup
returns-in-Startup g c =
    let source = g.O.SessionSource.source in
    let self = c.self-in-Startup in
    let at : Standing = record { phase = self.inside.phase; spot = self.inside.speaker; work = self.inside.work } in
    let seen = map pair_seen c.in-Startup.parameters.items in
    rw (← self.view_is) (as-packet source (started c.args.packet.now) (Startup c.in-Startup.minor seen) (talking at self.inside.out) c.begin.new.self (ap started c.in-Startup.is)
    (starts-by source c.in-Startup.minor seen (map pair_seen c.deref.result.now) (map pair_seen c.deref-in-Startup.result.now) c.tenant_of.result (talking at self.inside.out) c.begin.new.self c.negotiate.new.out
    (ap (map pair_seen) c.deref.ensures.value) (ap (map pair_seen) c.deref-in-Startup.ensures.value) c.tenant_of.ensures c.negotiate.ensures c.begin.ensures))
