use Rattle.std.proofs.Common.{◌∙◌, List, is_some, ap}
use Rattle.std.specs.Map.{values_of, lookup}
use Rattle.sb_value.specs.Name.{same_name}
use Rattle.sb_catalog.specs.declared.rule.Rule.{Rule}
use Rattle.sb_catalog.specs.Rules.{has_name}
use Rattle.sb_catalog.proofs.Named.{lookup_named}
use Rattle.sb_catalog.proofs.Noted.{some_found}
use Rattle.sb_catalog.proofs.catalog.Catalog.has.Goals as goal

pub returns : goal.returns
returns c =
    c.contains_key.ensures
    ∙ ap is_some (ap (lookup (same_name c.args.name.now)) c.self.invariant.named ∙ lookup_named c.args.name.now (values_of c.self.inside.rules.entries))
    ∙ some_found (λ r. same_name r.name c.args.name.now) (values_of c.self.inside.rules.entries)
    ∙ ap (λ (rules : List Rule). has_name rules c.args.name.now) c.self.view_is
