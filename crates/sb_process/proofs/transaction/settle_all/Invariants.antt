use Rattle.std.proofs.Common.{◌≡◌}
use Rattle.sb_value.specs.declared.lock.LockMode.TheVariants.{Write}
use Rattle.sb_locks.specs.Held.{held}
use Rattle.sb_process.specs.Made.{AreNumbered}
use Rattle.sb_process.specs.Sharing.{settled_where}
use Rattle.sb_process.proofs.Settled.{up_to}
use Rattle.sb_process.proofs.transaction.settle_all.Given as goal

-- the tables so far are settled
abbrev pub invariant-loop-number : goal.invariant-loop-number
invariant-loop-number l = AreNumbered l.initial.tables → l.tables ≡ settled_where (up_to (λ t. held l.locks l.session t Write) l.number) l.initial.tables
