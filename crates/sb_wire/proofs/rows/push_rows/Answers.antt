-- the head of the reply and the rows' lines
use Rattle.sb_wire.proofs.Texts.{rows_added}
use Rattle.sb_wire.proofs.rows.push_rows.Goals as goal

pub returns-clause-ok : goal.returns-clause-ok
returns-clause-ok c = rows_added _ _ _ _ c.args.rows.now _ c.len.ensures c.in_ok-push_counted.ensures.ok c.in_ok-write_lines.ensures.ok
