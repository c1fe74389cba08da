use Rattle.sb_durable.proofs.RowJournals as journals
use Rattle.sb_durable.proofs.laws.folders_can_lose_their_oldest.Goals as goal

pub returns : goal.returns
returns c = journals.folders_can_lose_their_oldest
