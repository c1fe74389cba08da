use Rattle.sb_catalog.proofs.LeastFree.{is_least, is_few, least}
use Rattle.sb_catalog.proofs.laws.least_free_is_least.Goals as goal

pub returns : goal.returns
returns c = record { least = is_least; few = is_few; only = λ used n h. least n used h.least h.free }
