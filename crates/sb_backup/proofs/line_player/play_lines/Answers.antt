use Rattle.sb_backup.proofs.Played.{file_taken}
use Rattle.sb_backup.proofs.line_player.play_lines.Goals as goal

-- the lines that the stream had answered
pub returns-in-Ok : goal.returns-in-Ok
returns-in-Ok g c =
    let stream = c.in-Ok.ensures.goes.0 in
    file_taken (g.P.Sender.takes c.args.sender) (g.P.Sender.refuses c.args.sender)
    (c.args.to.now, c.new-progress.result) (c.answer_stream-ended.new.first, c.answer_stream-ended.new.second)
    (g.F.Read.remaining c.args.file) (g.F.Read.remaining c.answer_stream-ended.new.reader.inner) stream.seen stream.pieces stream.lines.text
    stream.lines.answered c.if-is_bad.false stream.reads c.in-Ok.ensures.goes.1.1
