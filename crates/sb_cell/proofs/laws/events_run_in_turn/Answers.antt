use Rattle.sb_cell.proofs.Turns as turns
use Rattle.sb_cell.proofs.laws.events_run_in_turn.Goals as goal

pub returns : goal.returns
returns c = turns.events_run_in_turn
