use Rattle.std.proofs.Common.{subst, sym}
use Rattle.std.specs.Prelude.{Contains, IfSome}
use Rattle.sb_connection.specs.History.{Transacts}
use Rattle.sb_server.proofs.worker.Worker.pauses.Goals as goal

-- it has no transaction
pub returns-clause-rests : goal.returns-clause-rests
returns-clause-rests g c =
    λ noted attached. subst (λ b. Transacts c.args.client_connection.now.connection b) c.if-has_transaction.false (c.has_transaction.ensures.session attached)

-- its tenant is noted
pub returns-clause-noted : goal.returns-clause-noted
returns-clause-noted g c = λ noted. subst (λ o. IfSome o (Contains c.note_renewal.new.self.renewing.items)) (sym c.in-Some.is) (c.note_renewal.ensures.noted noted)
