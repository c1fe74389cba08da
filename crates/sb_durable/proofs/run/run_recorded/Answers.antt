use Rattle.sb_durable.proofs.Crashes.{ends_all, runs}
use Rattle.sb_durable.proofs.run.run_recorded.Goals as goal

pub returns-clause-goes : goal.returns-clause-goes
returns-clause-goes g c =
    let s = c.answer_stream-ended.ensures.goes in
    let r = runs g.D.Disk.seen g.D.Disk.may_leave (c.args.cell.now, c.args.recording.now) (c.answer_stream-ended.new.first, c.answer_stream-ended.new.second) s.0.pieces
    (g.W.Write.contents c.args.writer.now) (g.W.Write.contents c.answer_stream-ended.new.writer) s.0.left s.0.lines (λ head records has file left. c.is_kept.ensures head records _ has file left) in
    (s.0.seen, s.0.pieces, s.0.left, s.0.reads, s.0.in_time, s.1, r.0, r.1)

pub returns-clause-ok : goal.returns-clause-ok
returns-clause-ok g c =
    let s = returns-clause-goes g c in
    ends_all g.R.Source.fails g.R.Read.remaining c.answer_stream-ended.new.reader (g.R.Read.remaining c.args.reader.now) _ s.0 c.args.cell.now c.answer_stream-ended.new.first s.1 _ _ s.2 _ _ s.6 c.answer_stream-ended.result s.3 s.5 s.7
