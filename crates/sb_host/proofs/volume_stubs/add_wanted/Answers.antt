use Rattle.std.proofs.Common.{◌≡◌, ℕ, ◌<◌, ◌++◌, ◌==◌, cond, [], ◌∷◌, length, Some, sym, ap, ◌∙◌, arith}
use Rattle.sb_desk.specs.declared.receipts.Receipt.{Receipt}
use Rattle.sb_host.specs.Comparing.{due_of}
use Rattle.sb_host.specs.Finish.{row_at}
use Rattle.sb_host.specs.Rows.{row_read}
use Rattle.sb_host.proofs.VolumeRows.{count_more, row_more}
use Rattle.sb_host.proofs.volume_stubs.add_wanted.Goals as goal

pub returns-clause-rows : goal.returns-clause-rows
returns-clause-rows c =
    let rows = c.args.rows.now.items in
    let at = c.index.result in
    let v = c.push.new.self in
    let due : Receipt = due_of c.args.number c.args.entry.now in
    let within : at < length rows = omega (arith, c.index.ensures.in_range, c.requires) in
    let was : c.index_mut-row.result.now.items ≡ row_at rows at = sym (row_read rows at c.index_mut-row.result.now within c.index_mut-row.ensures.value) in
    let held : v.items ≡ row_at rows at ++ due ∷ [] =
    c.in_ok-push.ensures.items ∙ (λ i. was i ++ record { line = c.in_ok-share.ensures i; answer = record { number = Some c.args.number; reply = c.in_ok-share-2.ensures i } } ∷ []) in
    λ s. row_more rows at v (due ∷ []) within held s ∙ ap (λ (k : ℕ). row_at rows s ++ cond (k == s) (due ∷ []) []) c.index.ensures.value

pub returns-clause-parts : goal.returns-clause-parts
returns-clause-parts c =
    let rows = c.args.rows.now.items in
    let at = c.index.result in
    let v = c.push.new.self in
    let due : Receipt = due_of c.args.number c.args.entry.now in
    let within : at < length rows = omega (arith, c.index.ensures.in_range, c.requires) in
    let was : c.index_mut-row.result.now.items ≡ row_at rows at = sym (row_read rows at c.index_mut-row.result.now within c.index_mut-row.ensures.value) in
    let held : v.items ≡ row_at rows at ++ due ∷ [] =
    c.in_ok-push.ensures.items ∙ (λ i. was i ++ record { line = c.in_ok-share.ensures i; answer = record { number = Some c.args.number; reply = c.in_ok-share-2.ensures i } } ∷ []) in
    let more = count_more rows at v (due ∷ []) within held in
    omega (arith, more)
