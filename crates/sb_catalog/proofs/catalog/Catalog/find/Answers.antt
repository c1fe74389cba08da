use Rattle.std.proofs.Common.{◌∙◌, ap, List}
use Rattle.std.specs.Map.{values_of, lookup}
use Rattle.sb_value.specs.Name.{same_name}
use Rattle.sb_catalog.specs.declared.rule.Rule.{Rule}
use Rattle.sb_catalog.specs.Rules.{named}
use Rattle.sb_catalog.proofs.Named.{lookup_named}
use Rattle.sb_catalog.proofs.catalog.Catalog.find.Goals as goal

pub returns : goal.returns
returns c =
    c.get.ensures.value
    ∙ ap (lookup (same_name c.args.name.now)) c.self.invariant.named
    ∙ lookup_named c.args.name.now (values_of c.self.inside.rules.entries)
    ∙ ap (λ (rules : List Rule). named rules c.args.name.now) c.self.view_is
