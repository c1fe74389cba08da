use Rattle.sb_durable.proofs.RowJournals as journals
use Rattle.sb_durable.proofs.laws.restarts_are_the_same.Goals as goal

pub returns : goal.returns
returns c = journals.restarts_are_the_same
