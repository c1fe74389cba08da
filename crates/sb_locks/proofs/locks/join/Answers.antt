use Rattle.std.proofs.Common.{◌∙◌, ◌||◌, ◌&&◌, nat_eq, get_or, arith}
use Rattle.sb_locks.specs.Held.{has}
use Rattle.sb_locks.proofs.Words.{joined}
use Rattle.sb_locks.proofs.locks.join.Goals as goal

-- the session's bit in the table's word
pub returns : goal.returns
returns c s t =
    joined c.args.tables.now c.index.result c.number.result s t (omega arith) c.number.ensures.in_range
    ∙ (λ i. has (get_or c.args.tables.now t 0) s || (nat_eq s (c.number.ensures.value i) && nat_eq (c.index.ensures.value i) t))
