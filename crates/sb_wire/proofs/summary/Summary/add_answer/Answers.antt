use Rattle.std.proofs.Common.{sym}
use Rattle.sb_wire.specs.Counts.{step_reply}
use Rattle.sb_wire.proofs.Counting.{adds-one}
use Rattle.sb_wire.proofs.summary.Summary.add_answer.Goals as goal

pub returns : goal.returns
returns c = λ line. adds-one c.args.self.now c.add.new.self (step_reply line c.args.given.now) c.refusal_given.result c.has_number.result (sym c.refusal_given.ensures) (sym c.has_number.ensures) c.add.ensures.lines c.add.ensures.steps c.add.ensures.refused
