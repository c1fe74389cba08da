use Rattle.std.proofs.Common.{◌≡◌, ◌∙◌, ap, drop, length, refl, rules}
use Rattle.std.proofs.Math.Seq.{drop-length}
use Rattle.sb_frontend.proofs.connection_state.ConnectionState.violate.Goals as goal

pub returns : goal.returns
returns g c =
    let t = c.turn_away.ensures in
    let all : c.len-self-inside.result ≡ length c.self.inside.input.items = search rules in
    rw (← c.self.view_is) (t.0, t.1, t.2, ap (λ n. drop n c.self.inside.input.items) all ∙ drop-length c.self.inside.input.items, (refl, refl, refl))
