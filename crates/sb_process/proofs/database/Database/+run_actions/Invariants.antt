use Rattle.std.proofs.Common.{length}
use Rattle.sb_process.proofs.database.Database.+run_actions.Given as goal

abbrev pub decreases-run_actions : goal.decreases-run_actions
decreases-run_actions g l = length l.actions.now
