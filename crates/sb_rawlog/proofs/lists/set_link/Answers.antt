use Rattle.std.proofs.Common.{sym}
use Rattle.sb_rawlog.proofs.Chains.{relinked_is}
use Rattle.sb_rawlog.proofs.lists.set_link.Goals as goal

pub returns-clause-places : goal.returns-clause-places
returns-clause-places g c =
    (relinked_is c.args.list c.args.arena.now c.take-node.new.self c.put.new.self c.args.place c.take-node.result c.args.to c.with-node.result (sym c.take-node.ensures.value) c.take-node.ensures.places c.with-node.ensures c.put.ensures).0

pub returns-clause-link : goal.returns-clause-link
returns-clause-link g c =
    (relinked_is c.args.list c.args.arena.now c.take-node.new.self c.put.new.self c.args.place c.take-node.result c.args.to c.with-node.result (sym c.take-node.ensures.value) c.take-node.ensures.places c.with-node.ensures c.put.ensures).1
