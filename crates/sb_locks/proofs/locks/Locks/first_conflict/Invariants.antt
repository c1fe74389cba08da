use Rattle.std.proofs.Common.{◌≡◌, find, drop}
use Rattle.sb_value.specs.Locks.{conflicts}
use Rattle.sb_locks.specs.Held.{held}
use Rattle.sb_locks.proofs.locks.Locks.first_conflict.Given as goal

abbrev pub invariant-loop-table : goal.invariant-loop-table
invariant-loop-table l =
    find (λ r. conflicts (held l.self) l.session r.0 r.1) (drop l.table-index l.request)
    ≡ find (λ r. conflicts (held l.self) l.session r.0 r.1) l.request
