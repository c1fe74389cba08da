use Rattle.std.proofs.Common.{◌≡◌, ◌∷◌, map, take}
use Rattle.sb_value.specs.declared.lock.LockMode.TheVariants.{Write}
use Rattle.sb_eval.specs.Statement.{write_of}
use Rattle.sb_process.proofs.lock_list.with_target.Given as goal

-- the write, and the locks that were passed
abbrev pub invariant-loop-read : goal.invariant-loop-read
invariant-loop-read l = l.locks.items ≡ (l.target, Write) ∷ map (write_of l.target) (take l.read-index l.reads)
