use Rattle.std.proofs.Common.{◌∙◌, ap, sym, subst, map, List}
use Rattle.sb_catalog.specs.Ruleset.{Ruleset}
use Rattle.sb_catalog.specs.Distinct.{AreDistinct}
use Rattle.sb_catalog.specs.Ruleset.{set_of}
use Rattle.sb_catalog.specs.Sets.{without_rule}
use Rattle.sb_catalog.proofs.Names.{distinct_lacking}
use Rattle.sb_catalog.proofs.Entries.{lacking_set}
use Rattle.sb_catalog.proofs.rulesets.Rulesets.drop_rule.Goals as goal

pub invariant_of-self : goal.invariant_of-self
invariant_of-self c =
    subst AreDistinct (sym (ap (map set_of) c.take_out.ensures ∙ lacking_set c.args.rule c.self.inside.sets.entries))
    (distinct_lacking c.args.rule (map set_of c.self.inside.sets.entries) c.self.invariant)

pub returns : goal.returns
returns c =
    ap (map set_of) c.take_out.ensures ∙ lacking_set c.args.rule c.self.inside.sets.entries
    ∙ ap (λ (sets : List Ruleset). without_rule sets c.args.rule) c.self.view_is
