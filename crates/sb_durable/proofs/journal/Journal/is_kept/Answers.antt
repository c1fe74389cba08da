use Rattle.sb_durable.proofs.Crash.{left_now}
use Rattle.sb_durable.proofs.journal.Journal.is_kept.Goals as goal

pub returns : goal.returns
returns g c head entries waiting has file left = record { batches = has.batches; stands = (left_now _ _ _ _ has.log file left).stands; all = has.all }
