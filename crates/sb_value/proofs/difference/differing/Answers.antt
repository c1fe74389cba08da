use Rattle.std.proofs.Common.{◌∙◌, ap, sym, slice_set, true}
use Rattle.sb_value.specs.Columns.{differ_at}
use Rattle.sb_value.proofs.SetLaws.{with_next, without_next}
use Rattle.sb_value.proofs.difference.differing.Goals as goal
use Rattle.sb_value.proofs.difference.differing.Goals.{then-differ_at, else-differ_at}

pub loop-place-init : goal.loop-place-init
loop-place-init c = c.empty-columns.ensures.value

pub loop-place-preserved : goal.loop-place-preserved
loop-place-preserved c =
    let test = differ_at c.args.old.now c.args.new.now in
    elim c.if-differ_at.branch [
      | then-differ_at w ↦
          w.columns-is ∙ w.with-columns.ensures.value ∙ ap (λ l. slice_set l c.loop-place.place true) c.loop-place.invariant
          ∙ with_next test c.loop-place.place c.loop-place-test.true (sym c.differ_at.ensures ∙ w.if-differ_at.true)
      | else-differ_at w ↦ w.columns-is ∙ c.loop-place.invariant ∙ without_next test c.loop-place.place c.loop-place-test.true (sym c.differ_at.ensures ∙ w.if-differ_at.false)
    ]
