use Rattle.std.proofs.Common.{◌≡◌, List, sym, subst}
use Rattle.std.specs.List.Sorted.{IsPermutation}
use Rattle.sb_desk.specs.declared.receipts.Receipt.{Receipt}
use Rattle.sb_desk.specs.Receipts.{receipts_of}
use Rattle.sb_host.specs.Comparing.{Compares}
use Rattle.sb_host.specs.Finish.{row_at}
use Rattle.sb_host.specs.Rows.{row_read}
use Rattle.sb_host.proofs.Rows.{reordered_by_set, row_stays}
use Rattle.sb_host.proofs.comparing.check_at.Goals as goal

pub returns-clause-found : goal.returns-clause-found
returns-clause-found c =
    let held : c.index_mut-row.result.now.items ≡ row_at c.args.rows.now.items c.args.at = sym (row_read c.args.rows.now.items c.args.at c.index_mut-row.result.now c.requires c.index_mut-row.ensures.value) in
    subst (λ (l : List Receipt). Compares l (receipts_of c.args.session 1 c.args.trail.now) c.check.result) held c.check.ensures.found

pub returns-clause-others : goal.returns-clause-others
returns-clause-others c = λ k other. row_stays c.args.rows.now.items c.args.at k c.check.new.receipts other

pub returns-clause-same : goal.returns-clause-same
returns-clause-same c =
    let held : c.index_mut-row.result.now.items ≡ row_at c.args.rows.now.items c.args.at = sym (row_read c.args.rows.now.items c.args.at c.index_mut-row.result.now c.requires c.index_mut-row.ensures.value) in
    reordered_by_set c.args.rows.now.items c.args.at c.check.new.receipts (subst (λ (l : List Receipt). IsPermutation l c.check.new.receipts.items) held c.check.ensures.same)
