use Rattle.std.proofs.Common.{◌≡◌, ◌∙◌, ◌<◌, ℕ, true, false, ap, sym, List, Option, Bor, Some, None, is_some, map, length, arith, refl, inl, inr}
use Rattle.std.proofs.lemmas.Bool.{cases_eq, ltb-true}
use Rattle.std.proofs.lemmas.List.{length-map}
use Rattle.std.specs.Option.{option_copied}
use Rattle.sb_value.specs.Limits.{rule_limit}
use Rattle.sb_catalog.specs.declared.rule.Rule.{Rule}
use Rattle.sb_catalog.specs.Rules.{numbered}
use Rattle.sb_catalog.proofs.LeastFree.{has, least, lacks_next}
use Rattle.sb_catalog.proofs.Noted.{some_numbered, no_rule}
use Rattle.sb_catalog.proofs.catalog.Catalog.free_rule.Goals as goal
use Rattle.sb_catalog.proofs.catalog.Catalog.free_rule.Goals.{then-loop-number-test+else-is_some, else-loop-number-test}

some_copied : (r : Option (Bor Rule)) → is_some (option_copied r) ≡ is_some r
some_copied None = refl
some_copied (Some x) = refl

pub loop-number-preserved : goal.loop-number-preserved
loop-number-preserved c =
    let rules : List Rule = c.args.self.now in
    let here : has (map (λ (r : Rule). r.id) rules) c.loop-number.number ≡ true =
    sym (some_numbered rules c.loop-number.number) ∙ ap (λ (k : ℕ). is_some (numbered rules k)) (sym c.new.ensures) ∙ ap is_some (sym c.rule.ensures)
    ∙ some_copied c.rule.result ∙ sym c.is_some.ensures ∙ c.if-is_some.true in
    (omega arith, λ k below. elim (cases_eq k c.loop-number.number) [ inl same ↦ ap (has (map (λ (r : Rule). r.id) rules)) same ∙ here | inr other ↦ c.loop-number.invariant.1 k (omega arith) ])

-- the number at which the loop ends has no rule
ends_free : (c : goal.After-new-2) → has (map (λ (r : Rule). r.id) c.args.self.now) c.loop-number.number ≡ false
ends_free c =
    let rules : List Rule = c.args.self.now in
    elim c.loop-number-test.branch [
      | then-loop-number-test+else-is_some w ↦
          sym (some_numbered rules c.loop-number.number) ∙ ap (λ (k : ℕ). is_some (numbered rules k)) (sym w.new.ensures) ∙ ap is_some (sym w.rule.ensures)
          ∙ some_copied w.rule.result ∙ sym w.is_some.ensures ∙ w.if-is_some.false
      | else-loop-number-test w ↦
          let room : length rules < rule_limit = ltb-true (length rules) rule_limit c.requires in
          lacks_next c.loop-number.number (map (λ (r : Rule). r.id) rules) (rw length-map (omega arith)) c.loop-number.invariant.1
    ]

pub returns-clause-least : goal.returns-clause-least
returns-clause-least c = c.new-2.ensures ∙ sym (least c.loop-number.number (map (λ (r : Rule). r.id) c.args.self.now) c.loop-number.invariant.1 (ends_free c))

pub returns-clause-free : goal.returns-clause-free
returns-clause-free c = rw c.new-2.ensures (no_rule (numbered c.args.self.now c.loop-number.number) (some_numbered c.args.self.now c.loop-number.number ∙ ends_free c))
