use Rattle.sb_replay.specs.declared.script.ScriptState.TheVariants.{Going}
use Rattle.sb_replay.proofs.Lines.{fresh, whole}
use Rattle.sb_replay.proofs.reading.read_script.Goals as goal

-- the lines are read to the end
pub returns-in-Ok-answer_stream : goal.returns-in-Ok-answer_stream
returns-in-Ok-answer_stream g c =
    let script = c.in-Ok.script in
    let goes = c.in-Ok-answer_stream.ensures.goes in
    let all = whole c.args.tenants g.R.Source.fails g.R.Read.remaining c.answer_stream.new.reader (g.R.Read.remaining c.args.reader.now) (script, Going 0)
    (c.answer_stream.new.first, c.answer_stream.new.second) _ _ c.in-Ok-answer_stream.field-0 c.understood.result (fresh c.args.tenants script c.in-Ok.ensures) goes.0 goes.1 c.understood.ensures in
    record { count = all.0; ok = all.1; err = all.2 }
