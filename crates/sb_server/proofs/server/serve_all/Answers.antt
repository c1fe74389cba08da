use Rattle.std.proofs.Common.{ℕ, Bool, List, Result, Ok, Err}
use Rattle.std.specs.Prelude.{IfOk, Vec}
use Rattle.std.specs.Global.{Global}
use Rattle.sb_connection.specs.Policies.{Policy, policy}
use Rattle.sb_desk.specs.declared.stub.Stub.{Stub}
use Rattle.sb_server.specs.Renewals.{AreLeft, LeavesOrRenews}
use Rattle.sb_server.proofs.Renewed.{are_left_of}
use Rattle.sb_server.proofs.server.serve_all.Goals as goal

are_left : {F : Type 0} (p : Policy) (may : Bool) (takes : ℕ → List Stub → Type 0) (all : Result (Vec Stub Global) F)
    → IfOk all (λ stubs. LeavesOrRenews p may takes stubs.items) → IfOk all (AreLeft p may)
are_left p may takes (Err e) some = tt
are_left p may takes (Ok stubs) some = are_left_of p may takes stubs.items some

pub returns-clause-left : goal.returns-clause-left
returns-clause-left g c =
    let admission = c.args.config.now.admission.now in
    are_left (policy (g.A.Admission.wants admission) (g.A.Admission.admits admission)) g.E.Renewals.may_renew g.E.Renewals.takes c.serve_as.result c.serve_as.ensures
