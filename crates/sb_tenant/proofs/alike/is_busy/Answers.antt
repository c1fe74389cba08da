use Rattle.std.proofs.Common.{sym, ◌∙◌}
use Rattle.sb_tenant.specs.Tenant.{state}
use Rattle.sb_tenant.proofs.Resting.{busy_at, idle_at}
use Rattle.sb_tenant.proofs.alike.is_busy.Goals as goal

pub returns-then-has_transaction : goal.returns-then-has_transaction
returns-then-has_transaction c =
    sym (busy_at (state c.args.tenant.now) c.loop-number.number c.new.result c.loop-number-test.true c.new.ensures c.loop-number.invariant (sym c.has_transaction.ensures ∙ c.if-has_transaction.true))

pub loop-number-preserved : goal.loop-number-preserved
loop-number-preserved c =
    idle_at (state c.args.tenant.now) c.loop-number.number c.new.result c.loop-number-test.true c.new.ensures c.loop-number.invariant (sym c.has_transaction.ensures ∙ c.if-has_transaction.false)
