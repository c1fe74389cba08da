use Rattle.std.proofs.lemmas.Result.{IfErr-weaker}
use Rattle.sb_desk.specs.declared.desk.AttachError.{AttachError}
use Rattle.sb_desk.specs.Desks.{RefusesRightly}
use Rattle.sb_desk.specs.Calls.{IsRefused}
use Rattle.sb_host.proofs.locks.admit_in.Goals as goal

-- the cell that the lock lends shows the reason
pub returns-clause-late : goal.returns-clause-late
returns-clause-late g c =
    let old = c.deref_mut.result.now in
    let new = c.admit.new.self in
    IfErr-weaker c.admit.result (λ (e : AttachError). RefusesRightly old c.args.tenant c.args.session e new) (IsRefused c.args.tenant c.args.session)
    (λ e refuses. (old, new, c.admit.ensures.hosted, refuses)) c.admit.ensures.err
