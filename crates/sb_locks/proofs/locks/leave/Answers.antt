use Rattle.std.proofs.Common.{◌∙◌, ℕ, sym, ap, not, ◌&&◌, nat_eq, get_or, arith, get_or-set_other, ne_of_gt}
use Rattle.sb_locks.specs.Held.{has}
use Rattle.sb_locks.proofs.Words.{left_more}
use Rattle.sb_locks.proofs.locks.leave.Goals as goal

-- one more table lacks the session
pub loop-holders-preserved : goal.loop-holders-preserved
loop-holders-preserved c =
    let lacks = λ (n t s : ℕ). not (nat_eq s n) && has (get_or c.args.tables.now t 0) s in
    record {
      left = λ t s h.
          left_more c.loop-holders.tables c.args.tables.now c.loop-holders.holders-index c.number.result
          (omega arith) c.number.ensures.in_range (omega arith) (c.loop-holders.invariant.kept c.loop-holders.holders-index (omega arith))
          (λ t s h. c.loop-holders.invariant.left t s h ∙ sym (ap (λ (n : ℕ). lacks n t s) c.number.ensures.value)) t s h
          ∙ ap (λ (n : ℕ). lacks n t s) c.number.ensures.value;
      kept = λ t h.
          get_or-set_other c.loop-holders.tables c.loop-holders.holders-index t _ 0 (ne_of_gt (omega arith))
          ∙ c.loop-holders.invariant.kept t (omega arith);
    }
