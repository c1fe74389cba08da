use Rattle.std.proofs.Common.{◌≡◌, ℕ, ◌+◌, ◌≤◌, List, ◌++◌, true, length}
use Rattle.std.specs.Vec.Iter.{into_iter_items, into_iter_len}
use Rattle.sb_value.specs.declared.change.Change.{Change}
use Rattle.sb_value.specs.declared.lock.LockMode.TheVariants.{Write}
use Rattle.sb_rawlog.specs.Sessions.{OthersStay}
use Rattle.sb_locks.specs.Held.{held}
use Rattle.sb_process.specs.Made.{NumbersBelow}
use Rattle.sb_process.specs.PreparedChanges.{CanApply, copies_of}
use Rattle.sb_process.specs.Represents.{Represents, who_in}
use Rattle.sb_process.specs.Work.{EachWork}
use Rattle.sb_process.specs.Transactions.{OtherSessionsStay}
use Rattle.sb_process.proofs.database.Database.apply.Given as goal

-- the changes that are left can be made, and those before them are
abbrev pub invariant-loop-change : goal.invariant-loop-change
invariant-loop-change g l =
    let left : List Change = into_iter_items l.change-iterator in
    record {
      can : CanApply l.self.tables (who_in l.self l.session) l.fn.target left;
      len : into_iter_len l.change-iterator ≡ length left;
      copied : l.copies.items ≡ copies_of left;
      locked : held l.self.locks l.session l.fn.target Write ≡ true;
      room : length left ≤ g.L.ChangeLog.room l.log;
      clock : g.L.ChangeLog.clock l.log + length left ≡ g.L.ChangeLog.clock l.initial.log + length l.fn.prepared_changes.changes.items;
      made : (done : List Change) × (done ++ left ≡ l.fn.prepared_changes.changes.items) ×
          EachWork l.initial.self l.session (g.L.ChangeLog.records l.initial.log) (g.L.ChangeLog.clock l.initial.log) l.rules (λ origin setting progress.
          Represents origin l.self l.session (g.L.ChangeLog.records l.log) (g.L.ChangeLog.clock l.log) setting (record progress { changes = progress.changes ++ done }));
      id : l.self.id ≡ l.initial.self.id;
      sessions : OtherSessionsStay l.initial.self.transactions l.self.transactions l.session;
      others : OthersStay (who_in l.initial.self l.session) (g.L.ChangeLog.records l.initial.log) (g.L.ChangeLog.records l.log);
      numbers : (n : ℕ) → NumbersBelow n l.initial.self.tables → (m : ℕ) × (m + length left ≡ n + length l.fn.prepared_changes.changes.items) × NumbersBelow m l.self.tables;
    }
