use Rattle.std.proofs.Common.{[], ◌∷◌, ◌++◌, Some, refl, sym, ap, ◌∙◌, append_assoc}
use Rattle.sb_rawlog.specs.Steps.{tuple_todo}
use Rattle.sb_net.proofs.Folds.{fewer}
use Rattle.sb_net.proofs.span.oldest.Goals as goal

pub steps-init : goal.steps-init
steps-init g c = record { stands = c.requires; passed = []; left = refl }

pub older-requires : goal.older-requires
older-requires g c = c.steps.invariant.stands

pub returns-in_default : goal.returns-in_default
returns-in_default g c = record { stands = c.steps.invariant.stands; ends = c.in_default.ensures; passed = c.steps.invariant.passed; left = c.steps.invariant.left }

pub steps-smaller : goal.steps-smaller
steps-smaller g c = let o = c.in-Some.ensures in fewer o.first o.passed (tuple_todo (g.L.ChangeLog.records c.args.log.now) (Some c.in-Some.next)) _ o.left

pub steps-preserved : goal.steps-preserved
steps-preserved g c =
    let o = c.in-Some.ensures in let inv = c.steps.invariant in
    record {
      stands = o.stands;
      passed = inv.passed ++ o.first ∷ o.passed;
      left = inv.left ∙ ap (λ l. inv.passed ++ l) o.left ∙ sym (append_assoc inv.passed (o.first ∷ o.passed) (tuple_todo (g.L.ChangeLog.records c.args.log.now) (Some c.in-Some.next)));
    }
