use Rattle.std.proofs.Common.{◌∙◌, not, false, ◌&&◌, nat_eq, map, refl, sym, ap}
use Rattle.std.specs.List.{list_any}
use Rattle.sb_catalog.specs.declared.rule.Rule.{Rule}
use Rattle.sb_catalog.proofs.Indexing.{has, made_inactive, listed_active, same_number}
use Rattle.sb_catalog.proofs.definitions.Definitions.deactivate.Goals as goal

pub returns-in-Ok-clause-inactive : goal.returns-in-Ok-clause-inactive
returns-in-Ok-clause-inactive c = record {
  rules = c.in-Ok.ensures.inactive;
  order = λ pairs o. record {
    order = o.order;
    listed = o.listed ∙ sym (listed_active c.in-Ok.rule false c.args.self.now.rules) ∙ ap (map (λ (r : Rule). r.id)) (sym c.in-Ok.ensures.inactive);
  };
  rulesets = refl;
}

pub returns-in-Ok-clause-indexed : goal.returns-in-Ok-clause-indexed
returns-in-Ok-clause-indexed c = λ h table operation id.
    c.drop_rule.ensures c.args.tenant table operation id
    ∙ (λ i. h table operation id i && not (same_number c.args.tenant i && nat_eq id c.in-Ok.rule))
    ∙ sym (made_inactive table operation id c.in-Ok.rule c.args.self.now.rules)
    ∙ ap (list_any (has table operation id)) (sym c.in-Ok.ensures.inactive)
