use Rattle.std.proofs.Common.{◌∙◌, Option, ◌&&◌, ◌||◌, nat_eq, option_map, sym, ap}
use Rattle.std.specs.Option.{option_copied}
use Rattle.sb_value.specs.declared.refusal.Refusal.TheVariants.{NoRule}
use Rattle.sb_check.specs.Names.{some_or}
use Rattle.sb_catalog.specs.declared.rule.Rule.{Rule}
use Rattle.sb_catalog.proofs.definitions.Definitions.active_rule.Goals as goal

pub returns-in-Some : goal.returns-in-Some
returns-in-Some c = (
  c.in-Some.rule.now.id,
  ap (λ (o : Option Rule). some_or NoRule (option_map (λ r. r.id) o)) (sym c.find.ensures ∙ ap option_copied c.in-Some.is),
  λ id. c.intersection.ensures.members id
      ∙ (λ i. (c.with.ensures.members id ∙ (λ j. c.empty.ensures.members id j || nat_eq id c.in-Some.rule.now.id)) i && c.active.ensures id i),
)
