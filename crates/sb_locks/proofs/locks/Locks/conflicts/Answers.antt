use Rattle.std.proofs.Common.{◌∙◌, ap, not, ◌||◌, ◌&&◌, nat_eq, bit_and, get_or, arith, sym, ◌*◌, ◌%◌, ◌^◌, ℕ}
use Rattle.std.specs.List.{list_any}
use Rattle.std.specs.Int.{bit_not, w8}
use Rattle.sb_value.specs.Locks.{conflicts, sessions}
use Rattle.sb_value.specs.declared.lock.LockMode.{LockMode}
use Rattle.sb_locks.specs.Held.{has, held}
use Rattle.sb_locks.proofs.Words.{any_other, any_other_of_either}
use Rattle.sb_locks.proofs.locks.Locks.conflicts.Goals as goal
use Rattle.sb_locks.proofs.locks.Locks.conflicts.Goals.{in-Read, in-Write}

-- the holders that stand in the way, without the session's own bit
pub returns : goal.returns
returns c =
    elim c.match-mode.branch [
      | in-Read w ↦
          ap (λ (n : ℕ). not (nat_eq (bit_and n (bit_not w8 (1 * 2 ^ c.number.result % 2 ^ 8))) 0)) w.holders-is
          ∙ any_other (get_or c.self.inside.writers c.index.result 0) c.number.result (omega arith) c.number.ensures.in_range
          ∙ (λ i. list_any (λ o. not (nat_eq o (c.number.ensures.value i)) && has (get_or (c.self.view_is i).writers (c.index.ensures.value i) 0) o) sessions)
          ∙ ap (λ (m : LockMode). conflicts (held c.args.self.now) c.args.session c.args.table m) (sym w.in-Read.is)
      | in-Write w ↦
          ap (λ (n : ℕ). not (nat_eq (bit_and n (bit_not w8 (1 * 2 ^ c.number.result % 2 ^ 8))) 0)) w.holders-is
          ∙ any_other_of_either (get_or c.self.inside.writers c.index.result 0) (get_or c.self.inside.readers w.index-in-Write.result 0) c.number.result (omega arith) (omega arith) c.number.ensures.in_range
          ∙ (λ i. list_any (λ o. not (nat_eq o (c.number.ensures.value i)) && (has (get_or (c.self.view_is i).writers (c.index.ensures.value i) 0) o || has (get_or (c.self.view_is i).readers (w.index-in-Write.ensures.value i) 0) o)) sessions)
          ∙ ap (λ (m : LockMode). conflicts (held c.args.self.now) c.args.session c.args.table m) (sym w.in-Write.is)
    ]
