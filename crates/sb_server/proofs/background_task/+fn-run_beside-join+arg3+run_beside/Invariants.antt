use Rattle.std.proofs.Common.{vec_len}
use Rattle.sb_server.proofs.background_task.+fn-run_beside-join+arg3+run_beside.Given as goal

-- each job is taken once
abbrev pub decreases-join+arg3 : goal.decreases-join+arg3
decreases-join+arg3 g l = vec_len l.jobs

abbrev pub decreases-run_beside : goal.decreases-run_beside
decreases-run_beside g l = vec_len l.jobs
