use Rattle.std.proofs.Common.{◌∙◌, List, ap, sym}
use Rattle.sb_tenant.specs.declared.phase.Phase.{Phase}
use Rattle.sb_tenant.specs.Defining.{is_another_under_way}
use Rattle.sb_tenant.proofs.Answering.{another_is}
use Rattle.sb_tenant.proofs.phase.Phases.is_another_under_way.Goals as goal

pub returns-then-eq : goal.returns-then-eq
returns-then-eq c =
    another_is c.self.inside.list c.args.session c.loop-other.other c.loop-other-test.true (λ e. c.if-other-index.true (e ∙ sym c.index.ensures.value)) (sym c.if-eq.ensures)
    ∙ ap (λ (phases : List Phase). is_another_under_way phases c.args.session) c.self.view_is
