use Rattle.std.specs.Option.{option_copied}
use Rattle.std.proofs.Common.{◌≡◌, ◌∙◌, ℕ, not, cond, List, [], ◌∷◌, ◌++◌, take, Option, ◌+◌, suc, arith, Ok, option_map, length, refl, sym, ap, inl}
use Rattle.std.proofs.lemmas.List.{take_all}
use Rattle.std.proofs.Math.Seq.{take-suc}
use Rattle.std.proofs.lemmas.Option.{slice_get_read}
use Rattle.sb_value.specs.declared.refusal.Refusal.TheVariants.{NoRule}
use Rattle.sb_check.specs.Names.{some_or}
use Rattle.sb_catalog.specs.declared.rule.Rule.{Rule}
use Rattle.sb_catalog.specs.Rules.{named, rule_named}
use Rattle.sb_catalog.specs.Definitions.{rules_named}
use Rattle.sb_catalog.proofs.InOrder.{in_order-more, in_order-refused}
use Rattle.sb_catalog.proofs.definitions.Definitions.numbers.Goals as goal

pub loop-name-init : goal.loop-name-init
loop-name-init c = ap Ok (sym c.new-numbers.ensures.items)

-- what a look-up by name finds
look_up : (name : List ℕ) (rules : List Rule) (found : Option Rule) → found ≡ named rules name → rule_named rules name ≡ some_or NoRule (option_map (λ r. r.id) found)
look_up name rules found e = ap (λ (o : Option Rule). some_or NoRule (option_map (λ r. r.id) o)) (sym e)

pub returns-in_default : goal.returns-in_default
returns-in_default c =
    let rules = c.args.self.now.rules in
    let names = c.args.names.now in
    inl (in_order-refused (rule_named rules) names c.loop-name.name-index c.name-item.result c.loop-name.numbers.items NoRule c.loop-name.invariant
    (slice_get_read names (length names) c.loop-name.name-index c.name-item.result refl c.loop-name-test.true c.name-item.is)
    (look_up c.name-item.result rules _ c.find.ensures ∙ ap (λ o. some_or NoRule (option_map (λ r. r.id) (option_copied o))) c.in_default.is))

pub loop-name-preserved : goal.loop-name-preserved
loop-name-preserved c =
    let rules = c.args.self.now.rules in
    let names = c.args.names.now in
    let pushed = c.is_err.ensures.negation ∙ ap not c.if-is_err.false in
    let next : c.loop-name.name-index + 1 ≡ suc c.loop-name.name-index = omega arith in
    ap (rules_named rules) (ap (λ (k : ℕ). take k names) next ∙ take-suc names c.loop-name.name-index c.name-item.result c.loop-name-test.true ∙ ap (λ x. take c.loop-name.name-index names ++ x ∷ []) (sym c.name-item.is))
    ∙ in_order-more (rule_named rules) (take c.loop-name.name-index names) c.name-item.result c.loop-name.numbers.items c.in-Some.rule.now.id c.loop-name.invariant
    (look_up c.name-item.result rules _ c.find.ensures ∙ ap (λ o. some_or NoRule (option_map (λ r. r.id) (option_copied o))) c.in-Some.is)
    ∙ ap Ok (sym (c.push.ensures.items ∙ ap (λ b. cond b (c.loop-name.numbers.items ++ c.in-Some.rule.now.id ∷ []) c.loop-name.numbers.items) pushed))

pub returns : goal.returns
returns c = sym (ap (rules_named c.args.self.now.rules) (take_all c.loop-name.name-index c.args.names.now c.loop-name-test.false)) ∙ c.loop-name.invariant
