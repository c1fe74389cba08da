use Rattle.sb_server.proofs.Renewed.{leaves_kept}
use Rattle.sb_server.proofs.server.Serving.serve_cells.Goals as goal

-- it begins with none, and has what its connections left, but for what renewals took
pub returns : goal.returns
returns g c =
    let begun = c.new-worker.result in
    let ended = c.run.new.self in
    leaves_kept g.D.Doorkeeper.policy g.E.Renewals.may_renew g.E.Renewals.takes (λ v. v.value.connection.attached) begun.client_connections ended.client_connections begun.stubs.items ended.stubs.items c.into_stubs.result.items c.new-worker.ensures c.into_stubs.ensures c.run.ensures
