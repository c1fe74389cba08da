use Rattle.sb_check.proofs.CommandFits.{names_fit}
use Rattle.sb_check.proofs.laws.resolved_commands_fit.Goals as goal

pub returns : goal.returns
returns c = names_fit
