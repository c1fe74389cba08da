use Rattle.sb_host.proofs.Rows.{blank_more}
use Rattle.sb_host.proofs.gathering.blank.Goals as goal

pub loop-row-preserved : goal.loop-row-preserved
loop-row-preserved g c = blank_more c.loop-row._row c.loop-row.rows.items c.push.new.self.items c.new.result c.loop-row.invariant c.in_ok-push.ensures.items c.new.ensures.items
