use Rattle.std.proofs.Common.{ap, sym}
use Rattle.std.specs.Prelude.{is_some}
use Rattle.sb_server.proofs.Renewed.{none_out, put_again, put_same}
use Rattle.sb_server.proofs.worker.Worker.resume.Goals as goal

-- there is none
pub returns-in_default-clause-same : goal.returns-in_default-clause-same
returns-in_default-clause-same g c = none_out c.args.self.now.client_connections c.take_out.new.self.client_connections c.args.key (sym c.in_default.ensures.client_connection) c.in_default.ensures.updates

-- it is another tenant's, or awaits none
pub returns-then-not-awaits_renewal_of-clause-same : goal.returns-then-not-awaits_renewal_of-clause-same
returns-then-not-awaits_renewal_of-clause-same g c = put_same c.args.self.now.client_connections c.take_out.new.self.client_connections c.put_back.new.self.client_connections c.args.key c.take_out.new.self.client_connections.vacant_key _ (ap is_some (sym c.in-Some.ensures.client_connection)) c.in-Some.ensures.updates c.in-Some.ensures.next c.put_back.ensures.updates

pub returns-clause-same : goal.returns-clause-same
returns-clause-same g c =
    put_again c.args.self.now.client_connections c.take_out.new.self.client_connections c.put_due.new.self.client_connections c.args.key c.take_out.new.self.client_connections.vacant_key (ap is_some (sym c.in-Some.ensures.client_connection)) c.in-Some.ensures.updates c.in-Some.ensures.next c.put_due.ensures.there
    c.put_due.ensures.elsewhere
