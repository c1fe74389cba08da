use Rattle.sb_frontend.proofs.RowReads.{all_rows}
use Rattle.sb_frontend.proofs.rows.write_rows.Goals as goal

pub returns-clause-ok : goal.returns-clause-ok
returns-clause-ok c = all_rows c.args.rows.now c.text.result.now _ c.args.out.now.items c.write_rows_of.new.out.items c.len.result c.text.ensures c.len.ensures c.in_ok-_left.ensures.ok
