use Rattle.starhost.specs.Commands.{line_of}
use Rattle.starhost.proofs.Told.{tells-both, tells-part}
use Rattle.starhost.proofs.run_report.tell_run.Goals as goal

-- the summary is told, and the end behind it
pub returns-in-Ok-clause-tells : goal.returns-in-Ok-clause-tells
returns-in-Ok-clause-tells g c =
    let w = c.in-Ok.ensures.writes in
    (w.0, w.1, tells-both g.E.Sink.refuses g.E.Write.contents c.args.errors.now.sink c.tell_summary.new.errors.sink c.tell_stream_end.new.errors w.0 w.2 w.3 (line_of c.args.ended) w.4 w.5 w.6 c.tell_stream_end.ensures.tells)

pub returns-in-Err-clause-tells : goal.returns-in-Err-clause-tells
returns-in-Err-clause-tells g c =
    let w = c.in-Err.ensures.writes in
    (w.0, w.1, tells-part g.E.Sink.refuses g.E.Write.contents c.args.errors.now.sink c.tell_summary.new.errors.sink w.0 w.2 w.3 (line_of c.args.ended) w.4 w.5 c.in-Err.ensures.refused)
