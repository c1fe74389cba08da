use Rattle.std.proofs.Common.{◌∙◌, ap, List}
use Rattle.sb_catalog.specs.Ruleset.{Ruleset}
use Rattle.sb_catalog.specs.Sets.{has_name}
use Rattle.sb_catalog.proofs.Entries.{some_named}
use Rattle.sb_catalog.proofs.rulesets.Rulesets.has.Goals as goal

pub returns : goal.returns
returns c =
    c.contains_key.ensures ∙ some_named c.args.name.now c.self.inside.sets.entries
    ∙ ap (λ (sets : List Ruleset). has_name sets c.args.name.now) c.self.view_is
