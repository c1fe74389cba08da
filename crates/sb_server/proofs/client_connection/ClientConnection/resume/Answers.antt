use Rattle.std.proofs.Common.{◌∙◌, ap}
use Rattle.sb_server.proofs.Carrying.{attached_resumed, carries_resumed, hosted_resumed, resumes}
use Rattle.sb_server.proofs.client_connection.ClientConnection.resume.Goals as goal

pub invariant_of-self : goal.invariant_of-self
invariant_of-self g c =
    let old = c.args.self.now in
    let new = c.resume-waits_on.new.self in
    let is = resumes c.resume-waits_on.result old.connection new c.resume-waits_on.ensures.ok c.resume-waits_on.ensures.err in
    record {
      carries = carries_resumed (g.S.Stream.traffic old.stream) old.connection new old.is_cut old.carries is;
      keyed = ap (λ h. h.keyed) (hosted_resumed old.connection new is) ∙ old.keyed;
    }

pub returns-clause-resumed : goal.returns-clause-resumed
returns-clause-resumed g c =
    resumes c.resume-waits_on.result c.args.self.now.connection c.resume-waits_on.new.self c.resume-waits_on.ensures.ok c.resume-waits_on.ensures.err

pub returns-clause-stays : goal.returns-clause-stays
returns-clause-stays g c =
    let old = c.args.self.now.connection in
    let new = c.resume-waits_on.new.self in
    attached_resumed old new (resumes c.resume-waits_on.result old new c.resume-waits_on.ensures.ok c.resume-waits_on.ensures.err)
