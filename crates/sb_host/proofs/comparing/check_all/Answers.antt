use Rattle.std.proofs.Common.{List, below_more, ◌∙◌, subst, arith}
use Rattle.std.specs.List.Sorted.{IsPermutation}
use Rattle.sb_desk.specs.declared.receipts.Receipt.{Receipt}
use Rattle.sb_host.specs.Comparing.{RowAgrees, due_at}
use Rattle.sb_host.proofs.comparing.check_all.Goals as goal

pub loop-at-preserved : goal.loop-at-preserved
loop-at-preserved c =
    let inv = c.loop-at.invariant in
    let trails = c.args.trails.now in
    let at = c.loop-at.at in
    let same = inv.left at (omega arith) in
    record {
      count = c.in-Equal.ensures.count ∙ inv.count;
      left = λ k far. c.in-Equal.ensures.others k (λ e. omega (arith, e, far)) ∙ inv.left k (omega (arith, far));
      agree = below_more (RowAgrees c.args.rows.now.items trails) at inv.agree (subst (λ (l : List Receipt). IsPermutation l (due_at trails at)) same c.in-Equal.ensures.found);
    }
