use Rattle.std.proofs.Common.{◌∙◌, subst, sym, List, ap, ◌++◌}
use Rattle.std.specs.List.{All}
use Rattle.sb_desk.specs.declared.stub.Stub.{Stub}
use Rattle.sb_server.specs.Renewals.{IsLeft}
use Rattle.sb_server.proofs.Renewed.{all_left, leaves_all}
use Rattle.sb_server.proofs.server.Serving.run_accept_thread.Goals as goal

-- it begins with none, and gains those of its connections
pub returns : goal.returns
returns g c =
    let p = g.D.Doorkeeper.policy in
    let may = g.E.Renewals.may_renew in
    let gained = c.run.ensures in
    let is = c.into_stubs.ensures ∙ gained.1 ∙ ap (λ (l : List Stub). l ++ gained.0) (c.new-accept_thread.ensures ∙ c.new-lobby.ensures) in
    leaves_all p may g.E.Renewals.takes c.into_stubs.result.items (subst (λ (l : List Stub). All (IsLeft p may) l) (sym is) (all_left p may gained.0 gained.2))
