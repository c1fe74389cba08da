use Rattle.std.proofs.Common.{◌≡◌, ◌<◌, ◌==◌, true, false, [], length, eqb-true, true≢false, sym, ap, ◌∙◌, arith}
use Rattle.sb_host.proofs.Rows.{ahead, behind, nothing, quiet_empty, quiet_within, stays_first}
use Rattle.sb_host.proofs.gathering.look_at.Goals as goal

pub returns-then-stub-tenants : goal.returns-then-stub-tenants
returns-then-stub-tenants c xs h = stays_first c.args.tenants xs c.args.stub.now c.args.first.now (quiet_within c.args.tenants xs c.args.stub.now c.if-stub-tenants.true) h

pub returns-then-is_empty : goal.returns-then-is_empty
returns-then-is_empty c xs h =
    let items = c.args.stub.now.receipts.items in
    let zero : (length items == 0) ≡ true = ap (λ l. length l == 0) (sym c.list.ensures) ∙ sym c.is_empty.ensures ∙ c.if-is_empty.true in
    let empty : items ≡ [] = nothing items (eqb-true (length items) 0 zero) in
    stays_first c.args.tenants xs c.args.stub.now c.args.first.now (quiet_empty c.args.tenants xs c.args.stub.now empty) h

pub returns-then-not-is_before : goal.returns-then-not-is_before
returns-then-not-is_before c xs h =
    let items = c.args.stub.now.receipts.items in
    let other : (length items == 0) ≡ false = ap (λ l. length l == 0) (sym c.list.ensures) ∙ sym c.is_empty.ensures ∙ c.if-is_empty.false in
    let some : items ≡ [] → ⊥ = λ e. true≢false (ap (λ l. length l == 0) (sym e) ∙ other) in
    let small : c.args.stub.now.session < 8 = (let below = c.number-number.ensures.in_range in let is = c.number-number.ensures.value in omega (arith, below, is)) in
    behind c.args.tenants xs c.args.stub.now c.args.first.now c.is_before.result c.is_before.ensures c.if-not-is_before.true c.if-stub-tenants.false small some h

pub returns-else-not-is_before : goal.returns-else-not-is_before
returns-else-not-is_before c xs h = ahead c.args.tenants xs c.args.stub.now c.args.first.now c.is_before.result c.is_before.ensures c.if-not-is_before.false h
