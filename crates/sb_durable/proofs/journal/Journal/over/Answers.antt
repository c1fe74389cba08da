use Rattle.std.proofs.Common.{refl}
use Rattle.sb_durable.proofs.journal.Journal.over.Goals as goal

pub returns-clause-has : goal.returns-clause-has
returns-clause-has g c head batches has = record { batches = batches; log = has; all = refl; waits = c.new.ensures.items }
