use Rattle.std.proofs.Common.{◌≡◌, ◌∙◌, ℕ, ◌+◌, false, ap, sym, subst, arith, List, [], ◌∷◌, ◌++◌, is_some, set, length, nat_eq}
use Rattle.std.specs.List.{list_any}
use Rattle.std.specs.Map.{values_of, lookup}
use Rattle.std.proofs.lemmas.List.{length-map}
use Rattle.indexmap.proofs.CallerLemmas.{insert_entry-new}
use Rattle.sb_value.specs.Name.{same_name}
use Rattle.sb_catalog.specs.declared.rule.Rule.{Rule}
use Rattle.sb_catalog.specs.Rules.{has_name, numbered}
use Rattle.sb_catalog.specs.Places.{AreKept, under_name}
use Rattle.sb_catalog.proofs.Named.{lookup_named, kept_with, values_with, entries_with}
use Rattle.sb_catalog.proofs.Active.{active-with}
use Rattle.sb_catalog.proofs.Written.{written_push}
use Rattle.sb_catalog.specs.Clauses.{HaveClauses}
use Rattle.sb_catalog.specs.declared.clauses.RuleClauses.{RuleClauses}
use Rattle.sb_catalog.proofs.Noted.{some_found, no_rule, noted_with}
use Rattle.sb_catalog.proofs.catalog.Catalog.push.Goals as goal

-- no memory for its clauses
pub invariant_of-self : goal.invariant_of-self
invariant_of-self c = subst (AreKept c.self.inside.rules.entries c.self.inside.places c.self.inside.active) (sym c.reserve.ensures.items) c.self.invariant

pub invariant_of-self-in-Ok : goal.invariant_of-self-in-Ok
invariant_of-self-in-Ok c =
    let rules : List Rule = values_of c.self.inside.rules.entries in
    let name : List ℕ = c.args.rule.name in
    -- the rule is the last entry
    let last : c.insert.new.self.entries ≡ c.self.inside.rules.entries ++ under_name c.args.rule ∷ [] =
    c.in-Ok.ensures.entries
    ∙ insert_entry-new same_name c.self.inside.rules name c.args.rule
    (no_rule (lookup (same_name name) c.self.inside.rules.entries)
    (ap is_some (ap (lookup (same_name name)) c.self.invariant.named ∙ lookup_named name rules) ∙ some_found (λ r. same_name r.name name) rules
    ∙ ap (λ (l : List Rule). has_name l name) c.self.view_is ∙ c.requires.new_name)) in
    let count : c.len-place.result ≡ 0 + length rules = rw length-map (c.len-place.ensures.len ∙ omega arith) in
    let new : list_any (λ (s : Rule). nat_eq s.id c.args.rule.id) rules ≡ false =
    sym (some_found (λ s. nat_eq s.id c.args.rule.id) rules) ∙ ap is_some (ap (λ (l : List Rule). numbered l c.args.rule.id) c.self.view_is ∙ c.requires.new_number) in
    rw c.note.ensures.noted (kept_with (set c.self.inside.places c.args.rule.id c.len-place.result) _ _ _ (rules ++ c.args.rule ∷ [])
    (last ∙ entries_with c.self.inside.rules.entries c.args.rule c.self.invariant.named)
    (noted_with c.self.inside.places 0 c.len-place.result rules c.args.rule count c.self.invariant.noted c.note.ensures.in_range new)
    (active-with c.self.inside.active c.with_flag-self-inside.result rules c.args.rule c.self.invariant.active new c.with_flag-self-inside.ensures)
    (subst (HaveClauses (rules ++ c.args.rule ∷ [])) (sym (c.push_reserved.ensures.items ∙ ap (λ (all : List RuleClauses). all ++ c.args.clauses ∷ []) c.reserve.ensures.items))
    (written_push rules c.self.inside.clauses.items c.args.rule c.args.clauses c.self.invariant.written c.requires.written)))

pub returns-in-Ok-clause-last : goal.returns-in-Ok-clause-last
returns-in-Ok-clause-last c =
    let rules : List Rule = values_of c.self.inside.rules.entries in
    let name : List ℕ = c.args.rule.name in
    -- the rule is the last entry
    let last : c.insert.new.self.entries ≡ c.self.inside.rules.entries ++ under_name c.args.rule ∷ [] =
    c.in-Ok.ensures.entries
    ∙ insert_entry-new same_name c.self.inside.rules name c.args.rule
    (no_rule (lookup (same_name name) c.self.inside.rules.entries)
    (ap is_some (ap (lookup (same_name name)) c.self.invariant.named ∙ lookup_named name rules) ∙ some_found (λ r. same_name r.name name) rules
    ∙ ap (λ (l : List Rule). has_name l name) c.self.view_is ∙ c.requires.new_name)) in
    values_with _ (values_of c.self.inside.rules.entries ++ c.args.rule ∷ []) (last ∙ entries_with c.self.inside.rules.entries c.args.rule c.self.invariant.named)
    ∙ ap (λ (l : List Rule). l ++ c.args.rule ∷ []) c.self.view_is
