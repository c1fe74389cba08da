use Rattle.std.proofs.Common.{drop}
use Rattle.sb_postgres.proofs.Pushing.{Rests}
use Rattle.sb_postgres.proofs.item.push_all.Given as goal

abbrev pub invariant-loop-item : goal.invariant-loop-item
invariant-loop-item g l = Rests g.T.Item.IsItem g.T.Item.bytes l.fn.out.items l.out.items (drop l.item-index l.items) l.items
