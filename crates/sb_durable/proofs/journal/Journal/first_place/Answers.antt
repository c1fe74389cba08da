use Rattle.std.proofs.Common.{refl, []}
use Rattle.sb_durable.proofs.journal.Journal.first_place.Goals as goal

pub returns : goal.returns
returns g c head entries waiting has = record { front = []; back = has.batches; log = has.log; reach = refl; all = has.all }
