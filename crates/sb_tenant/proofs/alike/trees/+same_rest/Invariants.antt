use Rattle.std.proofs.Common.{length}
use Rattle.sb_tenant.proofs.alike.trees.+same_rest.Given as goal

abbrev pub decreases-same_rest : goal.decreases-same_rest
decreases-same_rest l = length l.one
