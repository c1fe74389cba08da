use Rattle.std.proofs.lemmas.Option.{slice_get_within}
use Rattle.std.proofs.Common.{◌≡◌, ◌∙◌, ℕ, length, vec_len, ap, sym, subst, arith, List, map}
use Rattle.std.specs.List.{remove}
use Rattle.std.specs.Map.{values_of, lookup}
use Rattle.sb_value.specs.Name.{same_name}
use Rattle.sb_catalog.specs.declared.rule.Rule.{Rule}
use Rattle.sb_catalog.specs.Rules.{named, without_rule}
use Rattle.sb_catalog.specs.Places.{HasActive, closed}
use Rattle.sb_catalog.proofs.Active.{active-without}
use Rattle.sb_catalog.specs.Clauses.{HaveClauses}
use Rattle.sb_catalog.proofs.Written.{written_length, written_without}
use Rattle.sb_catalog.proofs.Named.{numbers, lookup_named, kept_with, values_with, rule_at, entries_without}
use Rattle.sb_catalog.proofs.Noted.{removed, noted_without, no_rule}
use Rattle.sb_catalog.proofs.catalog.Catalog.drop_rule.Goals as goal

pub returns-in_default-clause-found : goal.returns-in_default-clause-found
returns-in_default-clause-found c =
    ap numbers (sym (no_rule (lookup (same_name c.args.name.now) c.self.inside.rules.entries) (sym c.in_default.ensures.found)) ∙ ap (lookup (same_name c.args.name.now)) c.self.invariant.named
    ∙ lookup_named c.args.name.now (values_of c.self.inside.rules.entries) ∙ ap (λ (rules : List Rule). named rules c.args.name.now) c.self.view_is)

-- the rule stood at the place that was found
pub invariant_of-self : goal.invariant_of-self
invariant_of-self c =
    let entries : List (List ℕ × Rule) = c.self.inside.rules.entries in
    let rules : List Rule = values_of entries in
    let at = rule_at entries c.in-Some.place c.unwrap-rule.result (sym c.shift_remove_index.ensures.entry ∙ c.unwrap-rule.ensures) in
    rw c.close.ensures (kept_with (map (closed c.in-Some.place) c.self.inside.places) _ _ _ (remove rules c.in-Some.place)
    (c.shift_remove_index.ensures.entries ∙ entries_without entries c.in-Some.place c.self.invariant.named)
    (noted_without c.self.inside.places 0 c.in-Some.place c.in-Some.place rules c.unwrap-rule.result.1 (omega arith) c.self.invariant.noted at)
    (subst (HasActive c.without-self-inside.result) (removed c.self.inside.places 0 c.in-Some.place rules c.unwrap-rule.result.1 c.self.invariant.noted at)
    (active-without c.self.inside.active c.without-self-inside.result rules c.unwrap-rule.result.1.id c.self.invariant.active c.without-self-inside.ensures.members))
    (subst (HaveClauses (remove rules c.in-Some.place)) (sym c.remove-clauses.ensures.items) (written_without rules c.self.inside.clauses.items c.in-Some.place c.self.invariant.written)))

pub returns-clause-found : goal.returns-clause-found
returns-clause-found c =
    let entries : List (List ℕ × Rule) = c.self.inside.rules.entries in
    let at = rule_at entries c.in-Some.place c.unwrap-rule.result (sym c.shift_remove_index.ensures.entry ∙ c.unwrap-rule.ensures) in
    ap numbers (sym at ∙ c.in-Some.ensures.value ∙ ap (lookup (same_name c.args.name.now)) c.self.invariant.named ∙ lookup_named c.args.name.now (values_of entries)
    ∙ ap (λ (rules : List Rule). named rules c.args.name.now) c.self.view_is)

pub returns-clause-dropped : goal.returns-clause-dropped
returns-clause-dropped c =
    let entries : List (List ℕ × Rule) = c.self.inside.rules.entries in
    let rules : List Rule = values_of entries in
    let at = rule_at entries c.in-Some.place c.unwrap-rule.result (sym c.shift_remove_index.ensures.entry ∙ c.unwrap-rule.ensures) in
    values_with _ (remove rules c.in-Some.place) (c.shift_remove_index.ensures.entries ∙ entries_without entries c.in-Some.place c.self.invariant.named)
    ∙ sym (removed c.self.inside.places 0 c.in-Some.place rules c.unwrap-rule.result.1 c.self.invariant.noted at)
    ∙ ap (λ (l : List Rule). without_rule l c.unwrap-rule.result.1.id) c.self.view_is

-- the clauses are as many as the rules
pub remove-clauses-requires : goal.remove-clauses-requires
remove-clauses-requires c =
    let entries : List (List ℕ × Rule) = c.self.inside.rules.entries in
    let rules : List Rule = values_of entries in
    let at = rule_at entries c.in-Some.place c.unwrap-rule.result (sym c.shift_remove_index.ensures.entry ∙ c.unwrap-rule.ensures) in
    let long : vec_len c.self.inside.clauses ≡ length c.self.inside.clauses.items = omega arith in
    omega (arith, long, slice_get_within rules c.in-Some.place c.unwrap-rule.result.1 at, written_length rules c.self.inside.clauses.items c.self.invariant.written)
