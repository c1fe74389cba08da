use Rattle.std.proofs.Common.{ap}
use Rattle.sb_server.proofs.Counting.{sessions_kept}
use Rattle.sb_server.proofs.worker.Worker.make_place.Goals as goal

pub returns-clause-sessions : goal.returns-clause-sessions
returns-clause-sessions g c =
    sessions_kept (λ v. v.value.connection.attached) c.args.self.now.client_connections c.reserve.new.self (ap (λ s. s.slots) c.reserve.ensures.rest_kept)
