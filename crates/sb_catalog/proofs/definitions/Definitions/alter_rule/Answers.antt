use Rattle.std.proofs.Common.{◌≡◌, ◌∙◌, ◌==◌, ℕ, not, List, map, Ok, IfOk, refl, sym, ap, subst}
use Rattle.std.specs.List.{list_any}
use Rattle.sb_value.specs.declared.refusal.Refusal.TheVariants.{Cycle}
use Rattle.sb_check.specs.Names.{and_then, required}
use Rattle.sb_syntax.specs.Views.{alteration}
use Rattle.sb_check.specs.RulePartsView.{new_parts}
use Rattle.sb_priority.specs.Ranks.{pairs_altered}
use Rattle.sb_catalog.specs.declared.rule.Rule.{Rule}
use Rattle.sb_catalog.specs.Definitions.{rules_named, uncycled}
use Rattle.sb_catalog.specs.Rules.{set_parts, with_parts}
use Rattle.sb_catalog.proofs.Active.{any-changed}
use Rattle.sb_catalog.proofs.Indexing.{has, listed_changed}
use Rattle.sb_catalog.proofs.NewRules.{all_there, named_listed}
use Rattle.sb_catalog.proofs.Written.{new_clauses_mean}
use Rattle.sb_catalog.proofs.definitions.Definitions.alter_rule.Goals.{After-drop-before-in-Ok}
use Rattle.sb_catalog.proofs.definitions.Definitions.alter_rule.Goals as goal

-- the rule has its new parts
altered : (c : After-drop-before-in-Ok) → c.alter-in-Ok.new.self ≡ with_parts c.args.self.now.rules c.args.rule (new_parts c.args.read.parts)
altered c = subst (λ r. IfOk r (λ id. c.alter-in-Ok.new.self ≡ with_parts c.args.self.now.rules id (new_parts c.args.read.parts))) (c.alter-in-Ok.ensures.found ∙ c.requires.named) c.alter-in-Ok.ensures.altered

pub returns-in-Ok-clause-altered : goal.returns-in-Ok-clause-altered
returns-in-Ok-clause-altered c pairs o =
    let rules = c.args.self.now.rules in
    let before = ap (rules_named rules) (sym c.as_slice.ensures.value) ∙ c.in_ok-before.ensures ∙ ap Ok (sym c.as_slice-4.ensures.value) in
    let after = ap (rules_named rules) (sym c.as_slice-2.ensures.value) ∙ c.in_ok-after.ensures ∙ ap Ok (sym c.as_slice-5.ensures.value) in
    let apart = ap (rules_named rules) (sym c.as_slice-3.ensures.value) ∙ c.in_ok-apart.ensures ∙ ap Ok (sym c.as_slice-6.ensures.value) in
    let all = pairs_altered c.args.rule c.as_slice-6.result.now c.as_slice-4.result.now c.as_slice-5.result.now pairs in
    let linked = c.in-Ok.ensures.altered pairs o.order in (
      all,
      (λ i. and_then (before i) (λ x. and_then (after i) (λ y. and_then (apart i) (λ z. uncycled c.args.rule (pairs_altered c.args.rule z x y pairs)))))
          ∙ (λ i. required (not (linked.acyclic c.args.rule i)) Cycle (Ok all)),
      altered c,
      record {
        order = linked;
        listed = c.in-Ok.ensures.rules ∙ o.listed ∙ sym (listed_changed (set_parts (new_parts c.args.read.parts)) (λ r. refl) c.args.rule rules) ∙ ap (map (λ (r : Rule). r.id)) (sym (altered c));
      },
      refl,
    )

pub returns-in-Ok-clause-indexed : goal.returns-in-Ok-clause-indexed
returns-in-Ok-clause-indexed c index tenant h table operation id =
    h table operation id ∙ sym (any-changed (has table operation id) (set_parts (new_parts c.args.read.parts)) (λ r. refl) c.args.self.now.rules c.args.rule) ∙ ap (list_any (has table operation id)) (sym (altered c))

-- the rule and those that it names are in the order
pub alter-requires : goal.alter-requires
alter-requires c =
    let rules = c.args.self.now.rules in
    let listed = c.requires.ordered.1.listed in
    record {
      known = ap (λ (ids : List ℕ). list_any (λ k. k == c.args.rule) ids) listed ∙ named_listed rules c.args.text.now.name c.args.rule c.requires.named;
      others = λ r h. ap (λ (ids : List ℕ). list_any (λ k. k == r) ids) listed
          ∙ all_there rules c.as_slice.result.now c.as_slice-4.result.now (c.in_ok-before.ensures ∙ ap Ok (sym c.as_slice-4.ensures.value)) r h;
    }

-- what was read means the parts
pub alter-requires-in-Ok : goal.alter-requires-in-Ok
alter-requires-in-Ok c =
    let w = c.requires.resolved in
    record { written = new_clauses_mean c.args.read.clauses (alteration c.args.text.now) w.0 w.1 w.2 (new_parts c.args.read.parts) c.requires.written w.3 }
