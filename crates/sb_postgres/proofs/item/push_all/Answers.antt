use Rattle.sb_postgres.proofs.Pushing.{one_more, none_left}
use Rattle.sb_postgres.proofs.item.push_all.Goals as goal

pub loop-item-preserved : goal.loop-item-preserved
loop-item-preserved g c = one_more g.T.Item.IsItem g.T.Item.bytes c.args.out.now.items c.args.items.now c.loop-item.item-index c.loop-item-test.true c.item-item.result c.item-item.is c.loop-item.out.items c.push.new.out.items c.in_ok-push.ensures.0 c.in_ok-push.ensures.1 c.loop-item.invariant

pub returns : goal.returns
returns g c = none_left g.T.Item.IsItem g.T.Item.bytes c.args.out.now.items c.loop-item.out.items c.args.items.now c.loop-item.item-index c.loop-item-test.false c.loop-item.invariant
