use Rattle.starhost.proofs.Commands.{parses-ok}
use Rattle.starhost.proofs.parse.parse_lines.Goals as goal

pub returns-clause-ok : goal.returns-clause-ok
returns-clause-ok g c =
    parses-ok g.R.Source.fails g.R.Read.remaining c.args.reader.now c.answer_stream.new.reader (g.W.Write.contents c.args.writer.now) (g.W.Write.contents c.answer_stream.new.writer)
    c.answer_stream.result c.answer_stream.ensures.goes
