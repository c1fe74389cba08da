use Rattle.std.proofs.Common.{◌∙◌, ℕ, not, ◌&&◌, ◌||◌, nat_eq, [], ◌∷◌, ◌++◌, Ok, inl, inr, sym, ap}
use Rattle.std.specs.List.{list_any}
use Rattle.sb_syntax.specs.Views.{rule}
use Rattle.sb_check.specs.RulePartsView.{rule_parts}
use Rattle.sb_index.specs.Operation.{names}
use Rattle.sb_priority.specs.Ranks.{pairs_of}
use Rattle.sb_catalog.specs.declared.rule.Rule.{Rule}
use Rattle.sb_catalog.specs.declared.definitions.Definitions.{Definitions}
use Rattle.sb_catalog.specs.Definitions.{rules_named}
use Rattle.sb_catalog.specs.Rules.{rule_of}
use Rattle.sb_catalog.proofs.Indexing.{has, added, one_more, same_number, undone}
use Rattle.sb_catalog.proofs.NewRules.{all_there, pairs_known}
use Rattle.sb_catalog.proofs.Written.{clauses_mean}
use Rattle.sb_catalog.proofs.definitions.Definitions.create_rule.Goals as goal

pub returns-in-Ok-push_rule-clause-created : goal.returns-in-Ok-push_rule-clause-created
returns-in-Ok-push_rule-clause-created c = λ pairs o.
    let p = c.in-Ok-push_rule.ensures pairs o in
    let rules = c.args.self.now.rules in (
      pairs_of c.free_rule-rule.result c.as_slice-3.result.now c.as_slice-4.result.now,
      pairs_known rules pairs c.args.text.now.precedes.items c.args.text.now.follows.items c.as_slice-3.result.now c.as_slice-4.result.now c.free_rule-rule.result
          (ap (rules_named rules) (sym c.as_slice.ensures.value) ∙ c.in_ok-before.ensures ∙ ap Ok (sym c.as_slice-3.ensures.value)) (ap (rules_named rules) (sym c.as_slice-2.ensures.value) ∙ c.in_ok-after.ensures ∙ ap Ok (sym c.as_slice-4.ensures.value)) (sym c.has_room.ensures ∙ c.if-not-has_room.false) c.free_rule-rule.ensures.least
          ∙ p.0,
      p.1,
      p.2,
      p.3,
    )

pub returns-in-Ok-push_rule-clause-indexed : goal.returns-in-Ok-push_rule-clause-indexed
returns-in-Ok-push_rule-clause-indexed c = λ h table operation id.
    let rules = c.args.self.now.rules in
    let rule : Rule = rule_of c.free_rule-rule.result c.args.text.now.name (rule_parts c.args.read.parts) in
    let p = c.in-Ok-push_rule.ensures c.requires.ordered.0 c.requires.ordered.1 in
    c.in-Ok.ensures.added c.args.tenant table operation id
    ∙ (λ i. h table operation id i || (same_number c.args.tenant i && added table operation id rule i))
    ∙ sym (one_more table operation id rules rule)
    ∙ ap (λ (n : ℕ). list_any (has table operation id) (rules ++ rule_of n c.args.text.now.name (rule_parts c.args.read.parts) ∷ [])) c.free_rule-rule.ensures.least
    ∙ ap (list_any (has table operation id)) (sym p.1)

pub returns-clause-created : goal.returns-clause-created
returns-clause-created c = λ pairs o.
    let p = c.in-Err.ensures pairs o in
    let rules = c.args.self.now.rules in
    let known = pairs_known rules pairs c.args.text.now.precedes.items c.args.text.now.follows.items c.as_slice-3.result.now c.as_slice-4.result.now c.free_rule-rule.result
    (ap (rules_named rules) (sym c.as_slice.ensures.value) ∙ c.in_ok-before.ensures ∙ ap Ok (sym c.as_slice-3.ensures.value)) (ap (rules_named rules) (sym c.as_slice-2.ensures.value) ∙ c.in_ok-after.ensures ∙ ap Ok (sym c.as_slice-4.ensures.value)) (sym c.has_room.ensures ∙ c.if-not-has_room.false) c.free_rule-rule.ensures.least in
    (elim p.0 [ inl e ↦ inl (known ∙ e) | inr e ↦ inr e ], p.1)

pub returns-clause-indexed : goal.returns-clause-indexed
returns-clause-indexed c = λ h table operation id.
    let rules = c.args.self.now.rules in
    let triggers = c.args.read.parts.triggers in
    let n = c.free_rule-rule.result in
    let p = c.in-Err.ensures c.requires.ordered.0 c.requires.ordered.1 in
    c.drop_rule.ensures c.args.tenant table operation id
    ∙ (λ i. (c.in-Ok.ensures.added c.args.tenant table operation id ∙ (λ j. h table operation id j || (same_number c.args.tenant j && ((nat_eq table c.args.read.parts.table && nat_eq id n) && names triggers operation)))) i && not (same_number c.args.tenant i && nat_eq id n))
    ∙ undone table operation id n rules (nat_eq table c.args.read.parts.table) (names triggers operation) c.free_rule-rule.ensures.free
    ∙ ap (λ (d : Definitions). list_any (has table operation id) d.rules) (sym p.1)

pub push_rule-requires-clause-others : goal.push_rule-requires-clause-others
push_rule-requires-clause-others c =
    let rules = c.args.self.now.rules in
    all_there rules c.args.text.now.precedes.items c.as_slice-3.result.now (ap (rules_named rules) (sym c.as_slice.ensures.value) ∙ c.in_ok-before.ensures ∙ ap Ok (sym c.as_slice-3.ensures.value))

-- what was read means the parts
pub push_rule-requires-clause-written : goal.push_rule-requires-clause-written
push_rule-requires-clause-written c = clauses_mean c.args.read.clauses (rule c.args.text.now) c.requires.resolved.0 (rule_parts c.args.read.parts) c.requires.written c.requires.resolved.1
