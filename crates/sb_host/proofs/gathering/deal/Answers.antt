use Rattle.std.proofs.Common.{◌≡◌, ℕ, ◌+◌, ◌*◌, ◌<◌, ◌++◌, length, set, sym, ap, ◌∙◌, arith}
use Rattle.sb_host.specs.Finish.{rank, row_at}
use Rattle.sb_host.proofs.Rows.{deals}
use Rattle.sb_host.specs.Rows.{row_read}
use Rattle.sb_host.proofs.gathering.deal.Goals as goal

pub returns-clause-rows : goal.returns-clause-rows
returns-clause-rows c =
    let rows = c.args.rows.now.items in
    let x = c.args.stub in
    let v = c.append.new.self in
    let small : c.index.result < 8 = c.index.ensures.in_range in
    let is : c.index.result ≡ x.session = c.index.ensures.value in
    let at : 8 * x.tenant + c.index.result ≡ rank x.tenant x.session = ap (λ (s : ℕ). 8 * x.tenant + s) is in
    let all : length rows ≡ 8 * c.args.tenants = c.requires in
    let few : x.tenant < c.args.tenants = omega (arith, c.if-tenant-tenants.false) in
    let within : rank x.tenant x.session < length rows = omega (arith, small, is, all, few) in
    let here : 8 * x.tenant + c.index.result < length rows = omega (arith, small, all, few) in
    let held : v.items ≡ row_at rows (rank x.tenant x.session) ++ x.receipts.items =
    c.in_ok-append.ensures.items ∙ ap (λ l. l ++ x.receipts.items) (sym (row_read rows (8 * x.tenant + c.index.result) c.index_mut-row.result.now here c.index_mut-row.ensures.value) ∙ ap (row_at rows) at) in
    λ t s few small'. ap (λ (k : ℕ). row_at (set rows k v) (rank t s)) at ∙ deals rows x v (omega (arith, small, is)) within held t s small'
