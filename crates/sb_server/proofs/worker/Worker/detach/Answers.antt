use Rattle.std.proofs.Common.{ℕ, List, cond, None, Some, ◌∷◌, [], ◌++◌, append-nil, inr, subst, sym, ◌∙◌, ap, arith}
use Rattle.sb_desk.specs.declared.stub.Stub.{Stub}
use Rattle.sb_server.specs.Renewals.{IsLeft}
use Rattle.sb_server.proofs.Renewed.{bit_at_most}
use Rattle.sb_server.proofs.worker.Worker.detach.Goals as goal

-- nothing is left
pub returns-then-is_err-clause-left : goal.returns-then-is_err-clause-left
returns-then-is_err-clause-left g c = (None, c.reserve.ensures.items ∙ sym (append-nil c.args.self.now.stubs.items), tt, omega arith)

-- the receipts of the volume
pub returns-in-Some-clause-left : goal.returns-in-Some-clause-left
returns-in-Some-clause-left g c =
    let stub = c.in-Some.stub in (
      Some stub,
      c.push_reserved.ensures.items ∙ ap (λ (l : List Stub). l ++ stub ∷ []) c.reserve.ensures.items,
      subst (λ m. IsLeft g.D.Doorkeeper.policy m stub) (sym c.requires.may) (inr c.in-Some.ensures.left),
      bit_at_most c.args.client_connection.now.connection.attached c.suspend.new.self.connection.attached,
    )

-- there was no session, or it has a transaction
pub returns-in_default-clause-left : goal.returns-in_default-clause-left
returns-in_default-clause-left g c =
    let same = ap {B = ℕ} (λ h. cond h.attached 1 0) c.in_default.ensures.none in
    (None, c.reserve.ensures.items ∙ sym (append-nil c.args.self.now.stubs.items), tt, omega (arith, same))
