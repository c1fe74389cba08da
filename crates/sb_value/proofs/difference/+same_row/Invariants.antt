use Rattle.std.proofs.Common.{length}
use Rattle.sb_value.proofs.difference.+same_row.Given as goal

abbrev pub decreases-same_row : goal.decreases-same_row
decreases-same_row l = length l.one.now
