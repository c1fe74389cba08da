use Rattle.std.proofs.Common.{◌≡◌, ◌∙◌, ap, sym}
use Rattle.sb_tenant.specs.declared.class.Class.{Class}
use Rattle.sb_tenant.specs.declared.phase.Phase.TheVariants.{Idle}
use Rattle.sb_tenant.specs.ClassView.{class_seen}
use Rattle.sb_tenant.specs.Defining.{phase_refusal}
use Rattle.sb_tenant.specs.Represents.{phase_at}
use Rattle.sb_tenant.proofs.Answering.{idle_refusal}
use Rattle.sb_tenant.proofs.phase.Phases.refusal.Goals as goal

pub returns-in-Idle-phase-3 : goal.returns-in-Idle-phase-3
returns-in-Idle-phase-3 c =
    let idle : Idle ≡ phase_at c.args.self.now c.args.session = c.in-Idle-phase-3.ensures in
    c.busy.ensures ∙ idle_refusal c.args.self.now c.args.session idle ∙ ap (λ (k : Class). phase_refusal (class_seen k) c.args.self.now c.args.session) (sym c.in-Defines.is)
