use Rattle.std.proofs.Common.{◌∙◌, sym}
use Rattle.sb_backup.proofs.Called.{closed_played, each_called}
use Rattle.sb_backup.proofs.host_loader.play.Goals as goal

-- the session was opened, called with the lines, stood where a script may end, and was closed
pub returns-in-None : goal.returns-in-None
returns-in-None g c =
    let opened = c.in-Ok.ensures in
    let called = c.in-Ok-played.ensures in
    let going = sym c.ended-has_ended.ensures ∙ c.if-has_ended.false in
    let seen = g.H.Session.Calling.seen in
    let begun = c.in-Ok.session in
    let after = c.play_lines-played.new.to in (
      called.0,
      called.1,
      closed_played c.args.tenant opened.2.0 (seen begun) (seen after) called.0 c.close-stub.result opened.2.1 (each_called seen called.0 begun after called.2) going
          c.close-stub.ensures,
      c.in-None.ensures,
    )
