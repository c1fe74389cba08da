use Rattle.std.proofs.Common.{refl}
use Rattle.sb_durable.specs.Replays.{playing_of}
use Rattle.sb_durable.proofs.Calls.{leaves_played, plays_seen}
use Rattle.sb_durable.proofs.row_playing.play_row.Goals as goal

pub returns-in-Ok-end_all : goal.returns-in-Ok-end_all
returns-in-Ok-end_all g c =
    let seen = g.H.Session.Calling.seen in
    let p = c.in-Ok-open_row.ensures in
    let e = c.in-Ok-end_all.ensures in
    let first = c.in-Ok.player in
    let last = c.open_row.new.player in (
      p.0,
      leaves_played (g.H.Hosting.tenants c.args.host) (playing_of seen first.sessions.items first.stubs.items first.reaches.items) (playing_of seen last.sessions.items last.stubs.items last.reaches.items) p.0 e.0 _ last.stubs.items _ c.in-Ok.ensures
          (plays_seen first last (λ p. playing_of seen p.sessions.items p.stubs.items p.reaches.items) p.0 p.1) e.1 refl e.2 e.3,
      p.2,
    )
