use Rattle.sb_connection.specs.Policies.{policy}
use Rattle.sb_server.proofs.server.serve_all.Given as goal

-- that of this admission
abbrev pub ghosts-serve_as : goal.ghosts-serve_as
ghosts-serve_as g a =
    let admission = a.config.now.admission.now in
    record { policy = policy (g.A.Admission.wants admission) (g.A.Admission.admits admission) }
