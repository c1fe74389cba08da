use Rattle.std.proofs.Common.{length}
use Rattle.sb_host.proofs.finish.+steps_of.Given as goal

abbrev pub decreases-steps_of : goal.decreases-steps_of
decreases-steps_of l = length l.trails.now
