use Rattle.std.proofs.Common.{◌∙◌, ap, not}
use Rattle.std.proofs.Math.Bool.{not-not}
use Rattle.std.specs.List.{list_any}
use Rattle.sb_value.specs.Flags.{has_none, intersection}
use Rattle.sb_value.proofs.FlagLaws.{any-intersection}
use Rattle.sb_value.proofs.rule_set.RuleSet.intersects.Goals as goal

pub returns : goal.returns
returns c =
    ap not (c.is_empty.ensures ∙ ap has_none c.intersection.ensures.value)
    ∙ not-not (list_any (λ b. b) (intersection c.args.self c.args.other))
    ∙ any-intersection c.args.self c.args.other
