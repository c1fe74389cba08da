use Rattle.std.proofs.Common.{◌∙◌, ap, List}
use Rattle.sb_catalog.specs.Ruleset.{Ruleset}
use Rattle.sb_catalog.specs.Sets.{members_of}
use Rattle.sb_catalog.proofs.Entries.{found}
use Rattle.sb_catalog.proofs.rulesets.Rulesets.members.Goals as goal

pub returns-clause-members : goal.returns-clause-members
returns-clause-members c =
    c.copied.ensures ∙ c.get.ensures.value ∙ found c.args.name.now c.self.inside.sets.entries
    ∙ ap (λ (sets : List Ruleset). members_of sets c.args.name.now) c.self.view_is
