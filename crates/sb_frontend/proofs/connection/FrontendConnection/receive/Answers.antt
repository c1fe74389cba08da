use Rattle.std.proofs.Common.{◌≡◌, subst, sym}
use Rattle.std.specs.Prelude.{OnErr, OnOk, Ok, Err, Result}
use Rattle.sb_frontend.specs.Dialogues.{Converses, Dialogue}
use Rattle.sb_frontend.specs.Starts.{Source}
use Rattle.sb_frontend.proofs.Whole.{received}
use Rattle.sb_frontend.proofs.connection.FrontendConnection.receive.Goals as goal

-- as it is told
by_result : {T E : Type 0} (source : Source) (r : Result T E) (old new more : Dialogue) → Converses source old → Converses source more → OnOk r (new ≡ more) → OnErr r (new ≡ old) → Converses source new
by_result source (Ok x) old new more so then is same = subst (Converses source) (sym is) then
by_result source (Err e) old new more so then is same = subst (Converses source) (sym same) so

pub invariant_of-self : goal.invariant_of-self
invariant_of-self g c =
    let source = g.O.SessionSource.source in
    by_result source c.receive.result c.self.inside.state c.receive.new.self _ c.self.invariant (received source c.self.inside.state c.args.bytes.now c.self.invariant) c.receive.ensures.ok c.receive.ensures.err
