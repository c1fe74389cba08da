use Rattle.std.proofs.Common.{◌++◌, Some, map, arith, ap, ◌∙◌}
use Rattle.sb_postgres.specs.Answers.{DataRow, sent}
use Rattle.sb_frontend.proofs.RowReads.{none_yet, one_more, texts-of}
use Rattle.sb_frontend.proofs.rows.write_rows_of.Goals as goal

pub loop-row-init : goal.loop-row-init
loop-row-init c = record { written = none_yet c.args.text.now c.args.out.now.items c.args.count; grows = omega arith }

pub loop-row-preserved : goal.loop-row-preserved
loop-row-preserved c = record {
  written = one_more c.args.text.now c.loop-row.left.now c.in_ok-cells.behind.now c.args.out.now.items c.loop-row.out.items c.write_row.new.out.items c.args.count c.loop-row._row
      (map (λ v. v.items) c.in_ok-cells.cells.items) (omega arith) c.loop-row.invariant.written c.in_ok-cells.ensures
      (c.in_ok-write_row.ensures.ok ∙ ap (λ cs. c.loop-row.out.items ++ sent (DataRow cs)) (ap (map (λ v. Some v.items)) c.deref.ensures.value ∙ texts-of c.in_ok-cells.cells.items));
  grows = omega (arith, c.loop-row.invariant.grows, c.write_row.ensures.grows);
}
