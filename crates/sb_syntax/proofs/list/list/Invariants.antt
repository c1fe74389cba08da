use Rattle.std.proofs.Common.{length}
use Rattle.sb_syntax.specs.Lists.{HasRead}
use Rattle.sb_syntax.proofs.list.list.Given as goal

abbrev pub invariant-more : goal.invariant-more
invariant-more g l = HasRead l.separator l.most g.T.Item.gives l.fn.tokens l.all.items l.tokens

abbrev pub decreases-more : goal.decreases-more
decreases-more g l = length l.tokens
