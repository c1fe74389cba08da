use Rattle.std.proofs.Common.{◌≡◌, ◌∙◌, true, ◌||◌, ◌&&◌, map, Option, Some, Ok, IfOk, option_map, refl, sym, ap, subst}
use Rattle.std.specs.List.{list_any}
use Rattle.std.specs.Option.{option_copied}
use Rattle.sb_value.specs.declared.refusal.Refusal.TheVariants.{NoRule}
use Rattle.sb_check.specs.Names.{some_or}
use Rattle.sb_catalog.specs.declared.rule.Rule.{Rule}
use Rattle.sb_catalog.specs.declared.definitions.Definitions.{Definitions}
use Rattle.sb_catalog.specs.Rules.{named, with_active}
use Rattle.sb_catalog.specs.Definitions.{SetsActive}
use Rattle.sb_catalog.proofs.Indexing.{has, added, made_active, listed_active, named_number, same_number}
use Rattle.sb_catalog.proofs.definitions.Definitions.activate.Goals as goal

-- the rule is found
found : (c : goal.After-activate) → named c.args.self.now.rules c.args.name.now ≡ Some c.in-Some.rule.now
found c = sym c.find.ensures ∙ ap option_copied c.in-Some.is

answered : (c : goal.After-activate) → c.activate.result ≡ Ok c.in-Some.rule.now.id
answered c = c.activate.ensures.found ∙ ap (λ (o : Option Rule). some_or NoRule (option_map (λ r. r.id) o)) (found c)

now_active : (c : goal.After-activate) → c.activate.new.self ≡ with_active c.args.self.now.rules c.in-Some.rule.now.id true
now_active c = subst (λ r. IfOk r (λ id. c.activate.new.self ≡ with_active c.args.self.now.rules id true)) (answered c) c.activate.ensures.active

pub returns-in-Ok-clause-active : goal.returns-in-Ok-clause-active
returns-in-Ok-clause-active c =
    let rule = c.in-Some.rule.now.id in
    let new : Definitions = record { rules = c.activate.new.self; order = c.args.self.now.order; rulesets = c.args.self.now.rulesets } in
    subst (λ r. IfOk r (λ id. SetsActive c.args.self.now new id true)) (sym (answered c)) (record {
      rules = now_active c;
      order = λ pairs o. record {
        order = o.order;
        listed = o.listed ∙ sym (listed_active rule true c.args.self.now.rules) ∙ ap (map (λ (r : Rule). r.id)) (sym (now_active c));
      };
      rulesets = refl;
    })

pub returns-in-Ok-clause-indexed : goal.returns-in-Ok-clause-indexed
returns-in-Ok-clause-indexed c = λ h table operation id.
    let rule = c.in-Some.rule.now in
    let rules = c.args.self.now.rules in
    c.in-Ok.ensures.added c.args.tenant table operation id
    ∙ (λ i. h table operation id i || (same_number c.args.tenant i && added table operation id rule i))
    ∙ sym (made_active table operation id rules rule rule.id c.rules.ensures.numbered (named_number c.args.name.now rules rule c.rules.ensures.numbered (found c)))
    ∙ ap (list_any (has table operation id)) (sym (now_active c))
