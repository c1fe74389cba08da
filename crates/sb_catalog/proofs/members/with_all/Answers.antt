use Rattle.std.proofs.Math.Bool.{or-true, or-false}
use Rattle.std.proofs.Common.{◌≡◌, ◌∙◌, ◌||◌, true, ap, sym, refl, drop, set, get_or, ◌+◌, ℕ}
use Rattle.std.proofs.lemmas.List.{get_or_default, at_drop_all}
use Rattle.sb_catalog.specs.Members.{with_rules}
use Rattle.sb_catalog.proofs.Marks.{marked-none, marked-more}
use Rattle.sb_catalog.proofs.members.with_all.Goals as goal

-- one more rule is marked
pub loop-rule-preserved : goal.loop-rule-preserved
loop-rule-preserved c =
    let rule : c.rule-item.result ≡ get_or c.args.rules.now c.loop-rule.rule-index 0 =
    c.rule-item.is ∙ get_or_default c.args.rules.now c.loop-rule.rule-index c.rule-item.result 0 c.loop-rule-test.true in
    ap (λ flags. with_rules flags (drop (c.loop-rule.rule-index + 1) c.args.rules.now)) (c.with-all.ensures.value ∙ ap (λ (r : ℕ). set c.loop-rule.all r true) rule)
    ∙ marked-more (λ b x. b || x) true (λ b. refl) or-true c.loop-rule.all c.args.rules.now c.loop-rule.rule-index c.loop-rule-test.true
    ∙ c.loop-rule.invariant

-- no rule is left to mark
pub returns : goal.returns
returns c =
    sym (at_drop_all (with_rules c.loop-rule.all) c.args.rules.now c.loop-rule.rule-index c.loop-rule-test.false ∙ marked-none (λ b x. b || x) or-false 0 c.loop-rule.all)
    ∙ c.loop-rule.invariant
