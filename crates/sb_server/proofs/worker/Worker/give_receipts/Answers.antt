use Rattle.std.proofs.Common.{List, ap, subst, sym, arith}
use Rattle.std.specs.Prelude.{IsPermutation}
use Rattle.sb_desk.specs.declared.stub.Stub.{Stub}
use Rattle.sb_server.specs.Sessions.{session_count}
use Rattle.sb_server.proofs.Renewed.{keeps_all, keeps_taken}
use Rattle.sb_server.proofs.worker.Worker.give_receipts.Goals as goal

-- there was no memory for them: the worker keeps them
pub returns-else-take_receipts-clause-keeps : goal.returns-else-take_receipts-clause-keeps
returns-else-take_receipts-clause-keeps g c =
    let old = c.args.self.now in
    let new = c.keep_receipts.new.self in
    let same = subst (λ (l : List Stub). IsPermutation old.stubs.items l) (sym c.keep_receipts.ensures.0) c.take_receipts.ensures.moved in
    let count = ap (λ s. session_count s (λ v. v.value.connection.attached)) c.keep_receipts.ensures.1 in
    keeps_all g.D.Doorkeeper.policy g.E.Renewals.may_renew g.E.Renewals.takes (λ v. v.value.connection.attached) old.client_connections new.client_connections old.stubs.items new.stubs.items same (omega (arith, count))

-- it took them
pub returns-then-take_receipts-clause-keeps : goal.returns-then-take_receipts-clause-keeps
returns-then-take_receipts-clause-keeps g c =
    let old = c.args.self.now in
    keeps_taken g.D.Doorkeeper.policy g.E.Renewals.may_renew g.E.Renewals.takes (λ v. v.value.connection.attached) old.client_connections old.client_connections old.stubs.items c.take_receipts.new.stubs.items c.take_receipts.new.own.items c.args.tenant c.requires
    c.take_receipts.ensures.moved c.renew.ensures c.take_receipts.ensures.own (omega arith)
