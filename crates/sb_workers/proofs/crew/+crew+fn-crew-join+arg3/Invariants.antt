use Rattle.std.proofs.Common.{◌+◌, ◌*◌, vec_len}
use Rattle.sb_workers.proofs.crew.+crew+fn-crew-join+arg3.Given as goal

abbrev pub decreases-crew : goal.decreases-crew
decreases-crew g l = 2 * vec_len l.helpers

abbrev pub decreases-join+arg3 : goal.decreases-join+arg3
decreases-join+arg3 g l = 2 * vec_len l.helpers + 1
