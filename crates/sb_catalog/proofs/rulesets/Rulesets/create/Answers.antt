use Rattle.std.proofs.Common.{◌≡◌, ◌∙◌, sym, ap, subst, map, Bool, List, None, [], ◌∷◌, ◌++◌}
use Rattle.std.specs.Map.{lookup}
use Rattle.std.proofs.lemmas.List.{map-append}
use Rattle.indexmap.proofs.CallerLemmas.{insert_entry-new}
use Rattle.sb_value.specs.Name.{same_name}
use Rattle.sb_value.specs.Flags.{no_flags}
use Rattle.sb_value.specs.Limits.{rule_limit}
use Rattle.sb_catalog.specs.Ruleset.{Ruleset}
use Rattle.sb_catalog.specs.Distinct.{AreDistinct}
use Rattle.sb_catalog.specs.Ruleset.{set_of}
use Rattle.sb_catalog.specs.Sets.{has_name, created}
use Rattle.sb_catalog.proofs.Names.{distinct_appended}
use Rattle.sb_catalog.proofs.Entries.{some_named, no_value}
use Rattle.sb_catalog.proofs.rulesets.Rulesets.create.Goals as goal
use Rattle.sb_catalog.proofs.rulesets.Rulesets.create.Goals.{in-Ok, in-Err}

-- no ruleset has the name
new : (c : goal.Joined-insert) → lookup (same_name c.args.name) c.self.inside.sets.entries ≡ None
new c =
    no_value (lookup (same_name c.args.name) c.self.inside.sets.entries)
    (some_named c.args.name c.self.inside.sets.entries ∙ ap (λ (sets : List Ruleset). has_name sets c.args.name) c.self.view_is ∙ sym c.has.ensures ∙ c.if-has.false)

-- an entry more is a ruleset more
one_more : (c : goal.Joined-insert) → map set_of (c.self.inside.sets.entries ++ (c.args.name, c.empty.result) ∷ []) ≡ created (map set_of c.self.inside.sets.entries) c.args.name
one_more c =
    map-append set_of c.self.inside.sets.entries ((c.args.name, c.empty.result) ∷ [])
    ∙ ap (λ (flags : List Bool). map set_of c.self.inside.sets.entries ++ record { name = c.args.name; rules = flags } ∷ []) c.empty.ensures.value

pub invariant_of-self : goal.invariant_of-self
invariant_of-self c =
    let sets : List Ruleset = map set_of c.self.inside.sets.entries in
    elim c.match-insert.branch [
      | in-Ok w ↦
          let put = ap (map set_of) (w.in-Ok.ensures.entries ∙ insert_entry-new same_name c.self.inside.sets c.args.name c.empty.result (new c)) ∙ one_more c in
          subst AreDistinct (sym put) (distinct_appended sets (record { name = c.args.name; rules = no_flags rule_limit }) c.self.invariant
          (ap (λ (l : List Ruleset). has_name l c.args.name) c.self.view_is ∙ sym c.has.ensures ∙ c.if-has.false))
      | in-Err w ↦ subst AreDistinct (sym (ap (map set_of) w.in-Err.ensures.err)) c.self.invariant
    ]

pub returns-clause-added : goal.returns-clause-added
returns-clause-added c =
    elim c.match-insert.branch [
      | in-Ok w ↦
          let put = ap (map set_of) (w.in-Ok.ensures.entries ∙ insert_entry-new same_name c.self.inside.sets c.args.name c.empty.result (new c)) ∙ one_more c in
          rw w.result-is (put ∙ ap (λ (sets : List Ruleset). created sets c.args.name) c.self.view_is)
      | in-Err w ↦ rw w.result-is tt
    ]
