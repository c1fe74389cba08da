use Rattle.sb_cell.proofs.Renewing.{renews}
use Rattle.sb_cell.proofs.cell.Cell.renew.Goals as goal

pub returns-in-Ok-clause-ok : goal.returns-in-Ok-clause-ok
returns-in-Ok-clause-ok c = renews c.args.self.now c.put.new.self c.args.fresh c.make_next.new.fresh c.put.result c.in-Ok.ensures.ok c.put.ensures
