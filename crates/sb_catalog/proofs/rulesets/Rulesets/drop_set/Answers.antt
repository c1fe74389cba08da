use Rattle.std.proofs.Common.{◌≡◌, ◌∙◌, refl, sym, ap, subst, not, map, List}
use Rattle.sb_value.specs.Name.{same_name}
use Rattle.sb_catalog.specs.Ruleset.{Ruleset}
use Rattle.sb_catalog.specs.Distinct.{AreDistinct}
use Rattle.sb_catalog.specs.Ruleset.{set_of}
use Rattle.sb_catalog.specs.Sets.{without_set}
use Rattle.sb_catalog.proofs.Names.{distinct_filtered}
use Rattle.sb_catalog.proofs.Entries.{taken, named_as}
use Rattle.sb_catalog.proofs.rulesets.Rulesets.drop_set.Goals as goal
use Rattle.sb_catalog.proofs.rulesets.Rulesets.drop_set.Goals.{in-Some, in-None}

-- the others are left
left : (c : goal.Joined-shift_remove) → map set_of c.shift_remove.new.self.entries ≡ without_set (map set_of c.self.inside.sets.entries) c.args.name.now
left c = ap (map set_of) c.shift_remove.ensures.entries ∙ taken c.args.name.now c.self.inside.sets.entries c.self.invariant

pub invariant_of-self : goal.invariant_of-self
invariant_of-self c =
    subst AreDistinct (sym (left c)) (distinct_filtered (λ s. not (same_name s.name c.args.name.now)) (map set_of c.self.inside.sets.entries) c.self.invariant)

pub returns-clause-known : goal.returns-clause-known
returns-clause-known c =
    elim c.match-shift_remove.branch [
      | in-Some w ↦ rw w.result-is (named_as c.args.name.now c.self.inside.sets.entries c.args.self.now _ w.in-Some.ensures.value c.self.view_is)
      | in-None w ↦ rw w.result-is tt
    ]

pub returns-clause-dropped : goal.returns-clause-dropped
returns-clause-dropped c =
    elim c.match-shift_remove.branch [
      | in-Some w ↦ rw w.result-is (left c ∙ ap (λ (sets : List Ruleset). without_set sets c.args.name.now) c.self.view_is)
      | in-None w ↦ rw w.result-is tt
    ]

pub returns-clause-refused : goal.returns-clause-refused
returns-clause-refused c =
    elim c.match-shift_remove.branch [
      | in-Some w ↦ rw w.result-is tt
      | in-None w ↦ rw w.result-is (refl, named_as c.args.name.now c.self.inside.sets.entries c.args.self.now _ w.in-None.ensures.value c.self.view_is)
    ]
