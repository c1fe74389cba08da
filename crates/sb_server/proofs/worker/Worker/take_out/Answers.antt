use Rattle.sb_server.proofs.Counting.{sessions_taken}
use Rattle.sb_server.proofs.worker.Worker.take_out.Goals as goal

pub returns-clause-sessions : goal.returns-clause-sessions
returns-clause-sessions g c =
    sessions_taken (λ v. v.value.connection.attached) c.args.self.now.client_connections c.try_remove.new.self c.args.key c.try_remove.result c.try_remove.ensures.value c.try_remove.ensures.updates c.try_remove.ensures.absent
