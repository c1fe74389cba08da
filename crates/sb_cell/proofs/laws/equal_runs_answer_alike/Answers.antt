use Rattle.sb_cell.proofs.Turns as turns
use Rattle.sb_cell.proofs.laws.equal_runs_answer_alike.Goals as goal

pub returns : goal.returns
returns c = turns.equal_runs_answer_alike
