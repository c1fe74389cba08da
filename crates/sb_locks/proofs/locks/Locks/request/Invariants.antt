use Rattle.std.proofs.Common.{◌≡◌, ℕ, take}
use Rattle.sb_value.specs.Locks.{with_locks}
use Rattle.sb_value.specs.declared.lock.LockMode.{LockMode}
use Rattle.sb_locks.specs.Held.{held}
use Rattle.sb_locks.proofs.locks.Locks.request.Given as goal

abbrev pub invariant-loop-table : goal.invariant-loop-table
invariant-loop-table l =
    (s t : ℕ) (m : LockMode) → held l.self s t m ≡ with_locks (held l.initial.self) l.session (take l.table-index l.request) s t m
