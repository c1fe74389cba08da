use Rattle.std.proofs.Common.{◌≡◌, ◌∙◌, ℕ, Bool, ap, sym, refl, List, Some}
use Rattle.std.specs.Map.{values_of, lookup}
use Rattle.sb_value.specs.Name.{same_name}
use Rattle.sb_catalog.specs.declared.rule.Rule.{Rule}
use Rattle.sb_catalog.specs.Rules.{named, with_active}
use Rattle.sb_catalog.proofs.Active.{active-set, named_there}
use Rattle.sb_catalog.proofs.Named.{numbers, lookup_named, written, kept_with, values_with}
use Rattle.sb_catalog.proofs.Noted.{noted_changed}
use Rattle.sb_catalog.proofs.Written.{written_same}
use Rattle.sb_catalog.proofs.catalog.Catalog.set_active.Goals as goal

abbrev active_as : Bool → Rule → Rule
active_as active r = record r { active = active }

-- the rule is found by its name
found : (c : goal.After-self-in-Some-2-1) → named (values_of c.self.inside.rules.entries) c.args.name.now ≡ Some c.in-Some.rule.now
found c =
    sym (lookup_named c.args.name.now (values_of c.self.inside.rules.entries)) ∙ ap (lookup (same_name c.args.name.now)) (sym c.self.invariant.named) ∙ sym c.in-Some.ensures.value

pub invariant_of-self : goal.invariant_of-self
invariant_of-self c =
    let places : List ℕ = c.self.inside.places in
    let rules : List Rule = values_of c.self.inside.rules.entries in
    let r : Rule = c.in-Some.rule.now in
    let put = written c.args.name.now (active_as c.args.active) (λ x. refl) places c.self.inside.active c.self.inside.rules.entries r c.self.invariant (sym c.in-Some.ensures.value) in
    kept_with places c.with_flag-self-inside.result _ c.self.inside.clauses.items (with_active rules r.id c.args.active) ((c.get_mut.follows.holds _).0 ∙ put) (noted_changed places (active_as c.args.active) (λ x. refl) r.id 0 rules c.self.invariant.noted)
    (active-set c.self.inside.active c.with_flag-self-inside.result rules r.id c.args.active c.self.invariant.active (named_there c.args.name.now rules r (found c)) c.with_flag-self-inside.ensures)
    (written_same (active_as c.args.active) (λ x. refl) r.id rules c.self.inside.clauses.items c.self.invariant.written)

pub returns-in-Some-clause-found : goal.returns-in-Some-clause-found
returns-in-Some-clause-found c = ap numbers (sym (found c) ∙ ap (λ (rules : List Rule). named rules c.args.name.now) c.self.view_is)

pub returns-in-Some-clause-set : goal.returns-in-Some-clause-set
returns-in-Some-clause-set c =
    let rules : List Rule = values_of c.self.inside.rules.entries in
    let r : Rule = c.in-Some.rule.now in
    let put = written c.args.name.now (active_as c.args.active) (λ x. refl) c.self.inside.places c.self.inside.active c.self.inside.rules.entries r c.self.invariant (sym c.in-Some.ensures.value) in
    values_with _ (with_active rules r.id c.args.active) ((c.get_mut.follows.holds _).0 ∙ put) ∙ ap (λ (l : List Rule). with_active l r.id c.args.active) c.self.view_is

pub returns-in-None-clause-found : goal.returns-in-None-clause-found
returns-in-None-clause-found c =
    ap numbers (c.in-None.ensures.value ∙ ap (lookup (same_name c.args.name.now)) c.self.invariant.named ∙ lookup_named c.args.name.now (values_of c.self.inside.rules.entries)
    ∙ ap (λ (rules : List Rule). named rules c.args.name.now) c.self.view_is)
