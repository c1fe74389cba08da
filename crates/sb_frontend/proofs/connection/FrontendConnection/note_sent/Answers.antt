use Rattle.std.proofs.Common.{◌≤◌, length, subst, sym}
use Rattle.sb_frontend.specs.Dialogues.{Converses, Dialogue}
use Rattle.sb_frontend.proofs.Whole.{sent}
use Rattle.sb_frontend.proofs.connection.FrontendConnection.note_sent.Goals as goal

pub invariant_of-self : goal.invariant_of-self
invariant_of-self g c =
    let source = g.O.SessionSource.source in
    let few = subst (λ (d : Dialogue). c.args.count ≤ length d.out.bytes) (sym c.self.view_is) c.requires in
    subst (Converses source) (sym c.note_sent.ensures) (sent source c.self.inside.state c.args.count few c.self.invariant)
