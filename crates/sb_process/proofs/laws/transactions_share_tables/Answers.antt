use Rattle.sb_process.proofs.Sharing.{shared}
use Rattle.sb_process.proofs.laws.transactions_share_tables.Goals as goal

pub returns : goal.returns
returns c = shared c.changes_keep_places.ensures
