use Rattle.sb_cell.proofs.Turns as turns
use Rattle.sb_cell.proofs.laws.turns_run_alone.Goals as goal

pub returns : goal.returns
returns c = turns.turns_run_alone c.legal_states_are_replayed.ensures
