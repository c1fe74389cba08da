use Rattle.std.proofs.Common.{◌∙◌, not, ◌&&◌, nat_eq, map, filter, sym, ap}
use Rattle.std.specs.List.{list_any}
use Rattle.sb_catalog.specs.declared.rule.Rule.{Rule}
use Rattle.sb_catalog.proofs.Indexing.{has, without, listed_without, same_number}
use Rattle.sb_catalog.proofs.definitions.Definitions.drop_rule.Goals as goal

pub returns-in-Ok-clause-dropped : goal.returns-in-Ok-clause-dropped
returns-in-Ok-clause-dropped c =
    let rules = c.args.self.now.rules in
    record {
      rules = c.in-Ok.ensures.dropped;
      order = λ pairs o. record {
        order = c.drop_rule-in-Ok.ensures.pairs pairs o.order;
        listed = c.drop_rule-in-Ok.ensures.rules ∙ ap (filter (λ k. not (nat_eq k c.in-Ok.rule))) o.listed
            ∙ sym (listed_without c.in-Ok.rule rules) ∙ ap (map (λ (r : Rule). r.id)) (sym c.in-Ok.ensures.dropped);
      };
      rulesets = c.drop_rule-in-Ok-2.ensures;
    }

pub returns-in-Ok-clause-indexed : goal.returns-in-Ok-clause-indexed
returns-in-Ok-clause-indexed c = λ h table operation id.
    c.drop_rule-in-Ok-3.ensures c.args.tenant table operation id
    ∙ (λ i. h table operation id i && not (same_number c.args.tenant i && nat_eq id c.in-Ok.rule))
    ∙ sym (without table operation id c.in-Ok.rule c.args.self.now.rules)
    ∙ ap (list_any (has table operation id)) (sym c.in-Ok.ensures.dropped)
