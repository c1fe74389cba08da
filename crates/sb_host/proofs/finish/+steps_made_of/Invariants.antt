use Rattle.std.proofs.Common.{length}
use Rattle.sb_host.proofs.finish.+steps_made_of.Given as goal

abbrev pub decreases-steps_made_of : goal.decreases-steps_made_of
decreases-steps_made_of l = length l.trails.now
