use Rattle.std.proofs.Common.{◌≡◌, ◌∙◌, ◌<◌, arith, List, All, length, slice_index_or, refl, sym, ap, subst}
use Rattle.std.proofs.lemmas.List.Elements.{All-push}
use Rattle.std.proofs.lemmas.Option.{slice_get_read}
use Rattle.sb_catalog.specs.declared.rule.Rule.{Rule}
use Rattle.sb_status.specs.RuleLines.{IsRuleOf}
use Rattle.sb_status.specs.declared.view.RuleView.{RuleView}
use Rattle.sb_status.proofs.Ruled.{as_many, clauses_at}
use Rattle.sb_status.proofs.tenant_copy.rules_of.Goals as goal

pub bounds-clauses-place : goal.bounds-clauses-place
bounds-clauses-place c =
    omega (
      arith,
      c.loop-place-test.true,
      c.loop-place.auto.place-end,
      ap length c.rules-rules.ensures.value,
      as_many c.args.catalog.now c.clauses-clauses.result.now c.clauses-clauses.ensures,
    )

pub loop-place-preserved : goal.loop-place-preserved
loop-place-preserved c =
    let rules = c.args.catalog.now in
    let all = c.clauses-clauses.result.now in
    let i = c.loop-place.place in
    let r = c.index-rules-place.result in
    let x = c.index-clauses-place.result in
    let many = as_many rules all c.clauses-clauses.ensures in
    let below : i < length rules = omega (arith, c.loop-place-test.true, c.loop-place.auto.place-end, ap length c.rules-rules.ensures.value) in
    let is : r ≡ slice_index_or rules i r = c.index-rules-place.is ∙ ap (λ (l : List Rule). slice_index_or l i r) c.rules-rules.ensures.value in
    let means = clauses_at rules all i r x c.clauses-clauses.ensures (slice_get_read rules (length rules) i r refl below is)
    (slice_get_read all (length all) i x refl (omega (arith, below, many)) c.index-clauses-place.is) in
    subst (λ (views : List RuleView). All (IsRuleOf rules) views) (sym c.in_ok-push.ensures.items)
    (All-push (IsRuleOf rules) c.loop-place.views.items c.in_ok-rule_view.field-0 c.loop-place.invariant
    (r, x, (i, below, sym is), means, c.in_ok-rule_view.ensures))
