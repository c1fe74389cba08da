use Rattle.sb_server.proofs.Counting.{sessions_put}
use Rattle.sb_server.proofs.worker.Worker.put_back.Goals as goal

pub returns-clause-sessions : goal.returns-clause-sessions
returns-clause-sessions g c =
    sessions_put (λ v. v.value.connection.attached) c.args.self.now.client_connections c.insert_reserved.new.self c.insert_reserved.result c.args.client_connection c.insert_reserved.ensures.was_vacant c.insert_reserved.ensures.updates
