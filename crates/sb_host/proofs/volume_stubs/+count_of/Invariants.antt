use Rattle.std.proofs.Common.{length}
use Rattle.sb_host.proofs.volume_stubs.+count_of.Given as goal

abbrev pub decreases-count_of : goal.decreases-count_of
decreases-count_of l = length l.rows.now
