use Rattle.sb_status.proofs.Targets.{number_is_text}
use Rattle.sb_status.proofs.route.number.Goals as goal

pub returns-in_default : goal.returns-in_default
returns-in_default c n is = c.in_default.ensures.cases.0 (number_is_text c.args.digits.now n is)
