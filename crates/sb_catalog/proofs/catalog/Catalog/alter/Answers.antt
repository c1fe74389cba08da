use Rattle.std.proofs.Common.{◌≡◌, ◌∙◌, ap, sym, refl, arith, ℕ, List, Some, length, map, slice_get, vec_len}
use Rattle.std.proofs.lemmas.Option.{slice_get_read}
use Rattle.std.specs.Map.{values_of, lookup, set_value}
use Rattle.sb_value.specs.Name.{same_name}
use Rattle.sb_check.specs.RulePartsView.{new_parts}
use Rattle.sb_catalog.specs.declared.rule.Rule.{Rule}
use Rattle.sb_catalog.specs.Places.{under_name}
use Rattle.sb_catalog.specs.Rules.{named, set_parts, with_parts}
use Rattle.sb_catalog.proofs.Active.{active-same}
use Rattle.sb_catalog.proofs.Named.{numbers, lookup_named, written, kept_with, placed, values_with}
use Rattle.sb_catalog.proofs.Noted.{noted_changed}
use Rattle.sb_catalog.proofs.Written.{written_altered, written_within}
use Rattle.sb_catalog.proofs.catalog.Catalog.alter.Goals as goal

-- the rule is found by its name
found : (c : goal.After-self-4-1) → named (values_of c.self.inside.rules.entries) c.args.name.now ≡ Some c.in-Some.rule.now
found c =
    sym (lookup_named c.args.name.now (values_of c.self.inside.rules.entries)) ∙ ap (lookup (same_name c.args.name.now)) (sym c.self.invariant.named) ∙ sym c.in-Some.ensures.value

-- what stands under the names then
put : (c : goal.After-self-4-1) → (c.get_mut.follows.lender c.alter.new.self).entries ≡ map under_name (with_parts (values_of c.self.inside.rules.entries) c.in-Some.rule.now.id (new_parts c.args.read.parts))
put c =
    let entries = c.self.inside.rules.entries in
    (c.get_mut.follows.holds _).0 ∙ ap (set_value (same_name c.args.name.now) entries) c.alter.ensures
    ∙ written c.args.name.now (set_parts (new_parts c.args.read.parts)) (λ x. refl) c.self.inside.places c.self.inside.active entries c.in-Some.rule.now c.self.invariant (sym c.in-Some.ensures.value)

pub returns-in_default-clause-found : goal.returns-in_default-clause-found
returns-in_default-clause-found c =
    ap numbers (c.in_default.ensures.value ∙ ap (lookup (same_name c.args.name.now)) c.self.invariant.named ∙ lookup_named c.args.name.now (values_of c.self.inside.rules.entries)
    ∙ ap (λ (rules : List Rule). named rules c.args.name.now) c.self.view_is)

-- it stands at the place that is noted, and so do its clauses
at : (c : goal.After-self-4-1) → (i : ℕ) × (slice_get (values_of c.self.inside.rules.entries) i ≡ Some c.in-Some.rule.now)
at c = placed c.args.name.now (values_of c.self.inside.rules.entries) c.in-Some.rule.now (found c)

pub invariant_of-self-2 : goal.invariant_of-self-2
invariant_of-self-2 c =
    let rules : List Rule = values_of c.self.inside.rules.entries in
    let parts = new_parts c.args.read.parts in
    let r : Rule = c.in-Some.rule.now in
    kept_with c.self.inside.places c.self.inside.active _ _ (with_parts rules r.id parts) (put c) (noted_changed c.self.inside.places (set_parts parts) (λ x. refl) r.id 0 rules c.self.invariant.noted)
    (active-same c.self.inside.active (set_parts parts) (λ x. (refl, refl)) rules r.id c.self.invariant.active)
    (written_altered c.self.inside.places rules c.self.inside.clauses.items (at c).0 c.get.result r c.index_mut-clauses.result.now c.alter-2.new.self c.args.read.clauses parts c.self.invariant.noted c.self.invariant.written (at c).1 c.get.ensures
    (slice_get_read c.self.inside.clauses.items (length c.self.inside.clauses.items) c.get.result c.index_mut-clauses.result.now refl
    (written_within c.self.inside.places rules c.self.inside.clauses.items (at c).0 c.get.result r c.self.invariant.noted c.self.invariant.written (at c).1 c.get.ensures) c.index_mut-clauses.ensures.value)
    c.alter-2.ensures c.requires.written)

pub returns-clause-found : goal.returns-clause-found
returns-clause-found c = ap numbers (sym (found c) ∙ ap (λ (rules : List Rule). named rules c.args.name.now) c.self.view_is)

pub returns-clause-altered : goal.returns-clause-altered
returns-clause-altered c =
    let r : Rule = c.in-Some.rule.now in
    values_with _ (with_parts (values_of c.self.inside.rules.entries) r.id (new_parts c.args.read.parts)) (put c) ∙ ap (λ (l : List Rule). with_parts l r.id (new_parts c.args.read.parts)) c.self.view_is

-- the clauses are as many as the rules
pub index_mut-clauses-requires : goal.index_mut-clauses-requires
index_mut-clauses-requires c =
    let rules : List Rule = values_of c.self.inside.rules.entries in
    let r : Rule = c.in-Some.rule.now in
    let stands = placed c.args.name.now rules r (sym (lookup_named c.args.name.now rules) ∙ ap (lookup (same_name c.args.name.now)) (sym c.self.invariant.named) ∙ sym c.in-Some.ensures.value) in
    let long : vec_len c.self.inside.clauses ≡ length c.self.inside.clauses.items = omega arith in
    omega (arith, long, written_within c.self.inside.places rules c.self.inside.clauses.items stands.0 c.get.result r c.self.invariant.noted c.self.invariant.written stands.1 c.get.ensures)
