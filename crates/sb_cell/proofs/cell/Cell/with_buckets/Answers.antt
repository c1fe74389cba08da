use Rattle.sb_cell.proofs.Beginning.{new_hosted, new_is}
use Rattle.sb_cell.proofs.cell.Cell.with_buckets.Goals as goal

pub invariant_of-result : goal.invariant_of-result
invariant_of-result c = new_hosted _ c.args.tenants c.requires.first c.requires.tenants c.in_ok-opened.ensures.fresh c.in_ok-opened.ensures.all c.in_ok-new.ensures.records c.new-2.ensures

pub returns : goal.returns
returns c = new_is _ c.args.tenants c.requires.first c.requires.tenants c.in_ok-opened.ensures.fresh c.in_ok-opened.ensures.all c.in_ok-new.ensures.records c.new-2.ensures
