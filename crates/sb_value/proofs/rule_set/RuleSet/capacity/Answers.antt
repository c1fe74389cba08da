use Rattle.std.proofs.Common.{◌∙◌, sym, ap, List, Bool, length}
use Rattle.sb_value.proofs.WordLaws.{length-flags_in}
use Rattle.sb_value.proofs.rule_set.RuleSet.capacity.Goals as goal

pub returns-clause-flags : goal.returns-clause-flags
returns-clause-flags c = ap (λ (s : List Bool). length s) (sym c.self.view_is) ∙ length-flags_in 4 c.self.inside.words c.self.invariant
