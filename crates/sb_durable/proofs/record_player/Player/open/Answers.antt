use Rattle.std.proofs.Common.{◌≡◌, ◌∙◌, sym, subst, None, Some, slice_set}
use Rattle.sb_desk.specs.Calls.{Session, shown}
use Rattle.sb_desk.specs.Receipts.{newcomer}
use Rattle.sb_durable.specs.Replays.{Becomes, playing_of}
use Rattle.sb_durable.specs.Records.{entry_of}
use Rattle.sb_durable.proofs.Calls.{becomes, stubs_stay}
use Rattle.sb_durable.proofs.record_player.Player.open.Goals as goal

pub returns-in-Ok : goal.returns-in-Ok
returns-in-Ok g c =
    let seen = g.H.Session.Calling.seen in
    let was = c.args.self.now in
    let line = c.args.line in
    let opened = c.in-Ok.ensures.2 in
    let number = c.opened_by.ensures line.tenant c.from.result opened.0 opened.1 in
    let session : c.from.result ≡ line.session = cc in
    let own : seen c.in-Ok.session ≡ shown (newcomer line.tenant line.session c.opened_by.result) = opened.1 ∙ (λ i. shown (newcomer line.tenant (session i) (sym number i))) in (
      c.opened_by.result,
      subst
          (λ (s : Session). Becomes (playing_of seen was.sessions.items was.stubs.items was.reaches.items) (entry_of line)
          (playing_of seen (slice_set was.sessions.items c.args.place (Some c.in-Ok.session)) was.stubs.items c.count_step.new.reaches.items) (Some s) c.opened_by.result None) own
          (becomes seen was.sessions.items was.stubs.items was.stubs.items was.reaches.items c.count_step.new.reaches.items (entry_of line) c.args.place (Some c.in-Ok.session) c.opened_by.result None c.requires.place (stubs_stay line.tenant was.stubs.items) c.count_step.ensures.counted),
    )
