use Rattle.std.proofs.Common.{◌≡◌, ℕ, ◌<◌, ◌++◌, ◌==◌, cond, List, [], length, refl, sym, ap, ◌∙◌, arith}
use Rattle.sb_desk.specs.declared.receipts.Receipt.{Receipt}
use Rattle.sb_host.specs.Finish.{row_at}
use Rattle.sb_host.specs.Rows.{row_read}
use Rattle.sb_host.proofs.VolumeRows.{row_more, row_stays_with}
use Rattle.sb_host.proofs.volume_stubs.add_to.Goals as goal

-- the receipts stay with their session, and only the row's room grew
pub returns-then-is_err-clause-err : goal.returns-then-is_err-clause-err
returns-then-is_err-clause-err c =
    let rows = c.args.rows.now.items in
    let at = c.index.result in
    let v = c.reserve.new.self in
    let within : at < length rows = omega (arith, c.index.ensures.in_range, c.requires) in
    let held : v.items ≡ row_at rows at = c.reserve.ensures.items ∙ sym (row_read rows at c.index_mut-row.result.now within c.index_mut-row.ensures.value) in
    (refl, row_stays_with rows at v within held)

pub returns-clause-rows : goal.returns-clause-rows
returns-clause-rows c =
    let rows = c.args.rows.now.items in
    let at = c.index.result in
    let v = c.append.new.self in
    let within : at < length rows = omega (arith, c.index.ensures.in_range, c.requires) in
    let own : at ≡ c.args.stub.session = c.index.ensures.value in
    let held : v.items ≡ row_at rows at ++ c.args.stub.receipts.items = c.in-Ok.ensures.items ∙ ap (λ (l : List Receipt). l ++ c.args.stub.receipts.items) (c.reserve.ensures.items ∙ sym (row_read rows at c.index_mut-row.result.now within c.index_mut-row.ensures.value)) in
    λ s. row_more rows at v c.args.stub.receipts.items within held s ∙ ap (λ (k : ℕ). row_at rows s ++ cond (k == s) c.args.stub.receipts.items []) own
