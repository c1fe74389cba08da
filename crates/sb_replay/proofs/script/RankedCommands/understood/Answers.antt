use Rattle.std.proofs.Common.{◌∙◌, ◌*◌, sym, ap, subst, refl, Ok}
use Rattle.sb_replay.specs.Scripts.{Gives}
use Rattle.sb_replay.proofs.script.RankedCommands.understood.Goals as goal

pub returns-in-Going : goal.returns-in-Going
returns-in-Going c =
    let rows = c.self.inside.rows in
    subst (λ p. Gives p c.args.self (Ok rows)) (sym c.in-Going.is)
    (rows, refl, c.self.invariant ∙ ap (λ s. 8 * s.tenants) c.self.view_is, ap (λ s. s.rows) c.self.view_is)
