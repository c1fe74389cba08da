use Rattle.std.proofs.Common.{◌≡◌, ◌++◌, ℕ, List, None, ap, cond, subst, sym, Vec, arith, ◌∙◌}
use Rattle.slab.specs.Slab.{Updates}
use Rattle.std.specs.Prelude.{is_some, option_to_list}
use Rattle.std.specs.Global.{Global}
use Rattle.sb_desk.specs.declared.stub.Stub.{Stub}
use Rattle.sb_server.specs.Sessions.{has_one, session_count}
use Rattle.sb_server.proofs.Renewed.{keeps_left, keeps_same, none_out, put_same}
use Rattle.sb_server.proofs.worker.Worker.suspend.Goals as goal

-- there is none
pub returns-in_default-clause-keeps : goal.returns-in_default-clause-keeps
returns-in_default-clause-keeps g c =
    keeps_same g.D.Doorkeeper.policy g.E.Renewals.may_renew g.E.Renewals.takes (λ v. v.value.connection.attached) c.args.self.now.client_connections c.take_out.new.self.client_connections c.args.self.now.stubs.items c.take_out.new.self.stubs.items (ap (λ (s : Vec Stub Global). s.items) c.take_out.ensures.stubs) (omega (arith, c.in_default.ensures.sessions))

pub returns-in_default-clause-same : goal.returns-in_default-clause-same
returns-in_default-clause-same g c = none_out c.args.self.now.client_connections c.take_out.new.self.client_connections c.args.key (sym c.in_default.ensures.client_connection) c.in_default.ensures.updates

-- it is another tenant's
pub returns-then-not-is_of-clause-keeps : goal.returns-then-not-is_of-clause-keeps
returns-then-not-is_of-clause-keeps g c =
    keeps_same g.D.Doorkeeper.policy g.E.Renewals.may_renew g.E.Renewals.takes (λ v. v.value.connection.attached) c.args.self.now.client_connections c.put_back.new.self.client_connections c.args.self.now.stubs.items c.put_back.new.self.stubs.items (ap (λ (s : Vec Stub Global). s.items) (c.put_back.ensures.stubs ∙ c.take_out.ensures.stubs))
    (omega (arith, c.in-Some.ensures.sessions, c.put_back.ensures.sessions))

pub returns-then-not-is_of-clause-same : goal.returns-then-not-is_of-clause-same
returns-then-not-is_of-clause-same g c = put_same c.args.self.now.client_connections c.take_out.new.self.client_connections c.put_back.new.self.client_connections c.args.key c.take_out.new.self.client_connections.vacant_key _ (ap is_some (sym c.in-Some.ensures.client_connection)) c.in-Some.ensures.updates c.in-Some.ensures.next c.put_back.ensures.updates

-- its session may leave receipts
pub returns-clause-keeps : goal.returns-clause-keeps
returns-clause-keeps g c =
    let left = c.detach-has_left.ensures.left in
    let before : c.take_out.new.self.stubs.items ≡ c.args.self.now.stubs.items = ap (λ (s : Vec Stub Global). s.items) c.take_out.ensures.stubs in
    let after : c.put_back-2.new.self.stubs.items ≡ c.detach-has_left.new.self.stubs.items = ap (λ (s : Vec Stub Global). s.items) c.put_back-2.ensures.stubs in
    let count = ap (λ s. session_count s (λ v. v.value.connection.attached)) c.detach-has_left.ensures.others in
    let own = ap {B = ℕ} (λ r. cond (has_one r (λ v. v.value.connection.attached)) 1 0) c.in-Some.is in
    keeps_left g.D.Doorkeeper.policy g.E.Renewals.may_renew g.E.Renewals.takes (λ v. v.value.connection.attached) c.args.self.now.client_connections c.put_back-2.new.self.client_connections c.args.self.now.stubs.items c.put_back-2.new.self.stubs.items left.0 (after ∙ left.1 ∙ ap (λ (l : List Stub). l ++ option_to_list left.0) before) left.2
    (grind (arith, c.in-Some.ensures.sessions, c.put_back-2.ensures.sessions, count, own, left.3))

pub returns-clause-same : goal.returns-clause-same
returns-clause-same g c =
    let mid = c.detach-has_left.new.self.client_connections in
    let same = sym c.detach-has_left.ensures.others in
    put_same c.args.self.now.client_connections mid c.put_back-2.new.self.client_connections c.args.key mid.vacant_key _ (ap is_some (sym c.in-Some.ensures.client_connection))
    (subst (λ s. Updates c.args.self.now.client_connections s c.args.key None) same c.in-Some.ensures.updates) (subst (λ s. s.vacant_key ≡ c.args.key) same c.in-Some.ensures.next) c.put_back-2.ensures.updates
