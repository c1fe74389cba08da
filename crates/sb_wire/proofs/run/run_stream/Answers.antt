use Rattle.sb_wire.proofs.Cells.{cell-stream, stream-ok}
use Rattle.sb_wire.proofs.run.run_stream.Goals as goal

pub returns-clause-counts : goal.returns-clause-counts
returns-clause-counts g c =
    let goes = c.answer_stream.ensures.goes in
    cell-stream g.R.Source.fails g.R.Read.remaining c.answer_stream.new.reader (c.args.cell.now, c.args.summary.now) (c.answer_stream.new.first, c.answer_stream.new.second) (g.R.Read.remaining c.args.reader.now) (g.W.Write.contents c.args.writer.now) (g.W.Write.contents c.answer_stream.new.writer) c.answer_stream.result goes.0 goes.1

pub returns-clause-goes : goal.returns-clause-goes
returns-clause-goes g c = let t = returns-clause-counts g c in (t.0, t.1)

pub returns-clause-ok : goal.returns-clause-ok
returns-clause-ok g c =
    let t = returns-clause-counts g c in
    stream-ok g.R.Source.fails g.R.Read.remaining c.answer_stream.new.reader c.args.cell.now c.answer_stream.new.first (g.R.Read.remaining c.args.reader.now) (g.W.Write.contents c.args.writer.now) (g.W.Write.contents c.answer_stream.new.writer) c.answer_stream.result t.0 t.1
