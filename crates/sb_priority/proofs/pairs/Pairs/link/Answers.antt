use Rattle.std.proofs.Common.{◌∙◌, ◌&&◌, ◌||◌, ◌==◌}
use Rattle.sb_priority.specs.Closed.{relates}
use Rattle.sb_priority.proofs.Tests.{same_turned}
use Rattle.sb_priority.proofs.pairs.Pairs.link.Goals as goal

pub returns : goal.returns
returns c a b =
    c.link_row.ensures a b
    ∙ (λ i. relates c.args.self.now a b || ((c.with.ensures.members a ∙ (λ j. c.empty.ensures.members a j || (a == c.args.first)) ∙ same_turned a c.args.first) i && (c.args.second == b)))
