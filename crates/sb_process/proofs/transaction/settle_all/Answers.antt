use Rattle.std.proofs.Common.{◌≡◌, ◌∙◌, ℕ, ◌+◌, nat_eq, List, ap, sym, subst, arith}
use Rattle.sb_value.specs.declared.lock.LockMode.TheVariants.{Write}
use Rattle.sb_locks.specs.Held.{held}
use Rattle.sb_tables.specs.Held.{Held}
use Rattle.sb_process.specs.Made.{AreNumbered}
use Rattle.sb_process.specs.Sharing.{settled_where}
use Rattle.sb_process.proofs.Sharing.{numbered-settled}
use Rattle.sb_process.proofs.Settled.{up_to, none-yet, skip-next, take-next}
use Rattle.sb_process.proofs.transaction.settle_all.Goals as goal
use Rattle.sb_process.proofs.transaction.settle_all.Goals.{then-is_held, else-is_held}

pub loop-number-init : goal.loop-number-init
loop-number-init c = λ n. none-yet (λ t. held c.args.locks.now c.args.session t Write) c.args.tables.now

pub loop-number-preserved : goal.loop-number-preserved
loop-number-preserved c = λ n.
    let test = λ (t : ℕ). held c.args.locks.now c.args.session t Write in
    let table : ℕ = c.new-table.result in
    let old : List Held = c.args.tables.now in
    let number : table ≡ c.loop-number.number = c.new-table.ensures in
    let so : c.loop-number.tables ≡ settled_where (up_to test table) old = c.loop-number.invariant n ∙ ap (λ (k : ℕ). settled_where (up_to test k) old) (sym number) in
    let on : settled_where (up_to test (table + 1)) old ≡ settled_where (up_to test (c.loop-number.number + 1)) old = ap (λ (k : ℕ). settled_where (up_to test (k + 1)) old) number in
    elim c.if-is_held.branch [
      | then-is_held w ↦
          w.tables-is ∙ w.settle_at.ensures (subst AreNumbered (sym so) (numbered-settled (up_to test table) old n)) ∙ ap (settled_where (λ t. nat_eq t table)) so
          ∙ take-next test table (sym c.is_held.ensures ∙ w.if-is_held.true) old ∙ on
      | else-is_held w ↦ w.tables-is ∙ so ∙ skip-next test table (sym c.is_held.ensures ∙ w.if-is_held.false) old ∙ on
    ]

pub returns : goal.returns
returns c = λ n.
    let end : c.loop-number.number ≡ 16 = omega arith in
    c.loop-number.invariant n ∙ ap (λ (k : ℕ). settled_where (up_to (λ t. held c.args.locks.now c.args.session t Write) k) c.args.tables.now) end
