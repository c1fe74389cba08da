use Rattle.std.proofs.Common.{◌∙◌}
use Rattle.sb_dump.proofs.Playing.{done_sent}
use Rattle.sb_dump.proofs.play.send.Goals as goal

pub returns : goal.returns
returns c =
    done_sent c.args.cell.now c.step-answer.new.self c.args.id _ c.args.line.now c.step-answer.result c.check.result c.requires (c.from.ensures ∙ c.number.ensures.value)
    c.step-answer.ensures.step c.check.ensures
