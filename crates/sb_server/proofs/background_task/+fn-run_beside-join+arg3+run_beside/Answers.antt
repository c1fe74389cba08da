use Rattle.sb_server.proofs.Zips.{all_did}
use Rattle.sb_server.proofs.background_task.+fn-run_beside-join+arg3+run_beside.Goals as goal

-- the jobs before the last one, and that one
pub returns : goal.returns
returns g t c =
    all_did g.W.Work.does c.args.jobs.items c.pop.new.self.items c.in-Some.job c.join-last.result.0 c.join-last.result.1 c.with_last.result
    c.in-Some.ensures.items c.join-last.ensures.first c.join-last.ensures.second c.with_last.ensures
