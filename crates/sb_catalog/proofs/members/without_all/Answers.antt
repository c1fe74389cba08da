use Rattle.std.proofs.Common.{◌≡◌, ◌∙◌, ◌&&◌, false, not, ap, sym, refl, drop, set, get_or, ◌+◌, ℕ}
use Rattle.std.proofs.lemmas.List.{get_or_default, at_drop_all}
use Rattle.sb_catalog.specs.Members.{without_rules}
use Rattle.sb_catalog.proofs.Marks.{marked-none, marked-more, and-not-true, and-not-false}
use Rattle.sb_catalog.proofs.members.without_all.Goals as goal

-- one more rule is marked
pub loop-rule-preserved : goal.loop-rule-preserved
loop-rule-preserved c =
    let rule : c.rule-item.result ≡ get_or c.args.rules.now c.loop-rule.rule-index 0 =
    c.rule-item.is ∙ get_or_default c.args.rules.now c.loop-rule.rule-index c.rule-item.result 0 c.loop-rule-test.true in
    ap (λ flags. without_rules flags (drop (c.loop-rule.rule-index + 1) c.args.rules.now)) (c.without-others.ensures.value ∙ ap (λ (r : ℕ). set c.loop-rule.others r false) rule)
    ∙ marked-more (λ b x. b && not x) false (λ b. refl) and-not-true c.loop-rule.others c.args.rules.now c.loop-rule.rule-index c.loop-rule-test.true
    ∙ c.loop-rule.invariant

-- no rule is left to mark
pub returns : goal.returns
returns c =
    sym (at_drop_all (without_rules c.loop-rule.others) c.args.rules.now c.loop-rule.rule-index c.loop-rule-test.false ∙ marked-none (λ b x. b && not x) and-not-false 0 c.loop-rule.others)
    ∙ c.loop-rule.invariant
