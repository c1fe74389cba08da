use Rattle.std.proofs.Common.{◌∙◌, refl, sym, ap, subst, map, List, Bool}
use Rattle.std.specs.Map.{set_value}
use Rattle.sb_value.specs.Name.{same_name}
use Rattle.sb_catalog.specs.Ruleset.{Ruleset}
use Rattle.sb_catalog.specs.Distinct.{AreDistinct}
use Rattle.sb_catalog.specs.Ruleset.{set_of}
use Rattle.sb_catalog.specs.Members.{changed_members}
use Rattle.sb_catalog.specs.Sets.{changed}
use Rattle.sb_catalog.proofs.Names.{distinct_changed}
use Rattle.sb_catalog.proofs.Entries.{written, named_as}
use Rattle.sb_catalog.proofs.rulesets.Rulesets.change_members.Goals as goal
use Rattle.sb_catalog.proofs.rulesets.Rulesets.change_members.Goals.{in-Some, in-None}

pub invariant_of-self : goal.invariant_of-self
invariant_of-self c =
    let change : List Bool → List Bool = λ set. changed_members c.args.change set c.args.rules.now in
    let sets : List Ruleset = map set_of c.self.inside.sets.entries in
    elim c.match-get_mut.branch [
      | in-Some w ↦
          let put = ap (map set_of) ((c.get_mut.follows.holds _).0) ∙ ap (λ flags. map set_of (set_value (same_name c.args.name.now) c.self.inside.sets.entries flags)) w.changed.ensures
          ∙ written c.args.name.now change w.in-Some.set.now c.self.inside.sets.entries c.self.invariant (sym w.in-Some.ensures.value) in
          rw w.self-inside-is (subst AreDistinct (sym put) (distinct_changed change c.args.name.now sets c.self.invariant))
      | in-None w ↦ rw (w.self-inside-is, c.get_mut.follows.holds-at-none) c.self.invariant
    ]

pub returns-clause-known : goal.returns-clause-known
returns-clause-known c =
    elim c.match-get_mut.branch [
      | in-Some w ↦ rw w.result-is (named_as c.args.name.now c.self.inside.sets.entries c.args.self.now _ w.in-Some.ensures.value c.self.view_is)
      | in-None w ↦ rw w.result-is tt
    ]

pub returns-clause-changed : goal.returns-clause-changed
returns-clause-changed c =
    let change : List Bool → List Bool = λ set. changed_members c.args.change set c.args.rules.now in
    elim c.match-get_mut.branch [
      | in-Some w ↦
          let put = ap (map set_of) ((c.get_mut.follows.holds _).0) ∙ ap (λ flags. map set_of (set_value (same_name c.args.name.now) c.self.inside.sets.entries flags)) w.changed.ensures
          ∙ written c.args.name.now change w.in-Some.set.now c.self.inside.sets.entries c.self.invariant (sym w.in-Some.ensures.value) in
          rw (w.result-is, w.self-inside-is) (put ∙ ap (λ (sets : List Ruleset). changed change sets c.args.name.now) c.self.view_is)
      | in-None w ↦ rw w.result-is tt
    ]

pub returns-clause-refused : goal.returns-clause-refused
returns-clause-refused c =
    elim c.match-get_mut.branch [
      | in-Some w ↦ rw w.result-is tt
      | in-None w ↦ rw w.result-is (refl, named_as c.args.name.now c.self.inside.sets.entries c.args.self.now _ w.in-None.ensures.value c.self.view_is)
    ]
