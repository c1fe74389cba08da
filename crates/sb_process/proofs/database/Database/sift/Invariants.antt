use Rattle.std.proofs.Common.{◌≡◌, ◌<◌, ◌-◌, ◌&&◌, ℕ, true}
use Rattle.sb_value.specs.Flags.{flag_at}
use Rattle.sb_value.specs.Limits.{rule_limit}
use Rattle.sb_catalog.specs.Rules.{numbered}
use Rattle.sb_process.specs.Represents.{who_in}
use Rattle.sb_process.specs.SharedTest.{AreSound}
use Rattle.sb_process.specs.Transactions.{OtherSessionsStay, ArePast, mark_of, is_candidate_of}
use Rattle.sb_process.specs.Triggered.{is_hit, CanTestAll}
use Rattle.sb_process.proofs.database.Database.sift.Given as goal

-- the set is what is left of the eligible candidates, the rules that were looked at are there only if they are hit, and the shared tests are sound
abbrev pub invariant-loop-rule : goal.invariant-loop-rule
invariant-loop-rule g l = record {
  marks : (s r : ℕ) → mark_of l.self.transactions s r ≡ mark_of l.initial.self.transactions s r;
  past : ArePast l.self.transactions l.session (g.L.ChangeLog.clock l.log);
  can : CanTestAll (who_in l.initial.self l.session) l.self.transactions (g.L.ChangeLog.records l.log) l.catalog;
  are_candidates : (r : ℕ) → flag_at l.set r ≡ (is_candidate_of l.self.transactions l.session r && flag_at l.fn.eligible r);
  are_hit : (r : ℕ) → r < l.next → flag_at l.set r ≡ true → is_hit (who_in l.initial.self l.session) l.initial.self.transactions (g.L.ChangeLog.records l.log) (numbered l.catalog r) ≡ true;
  stay : (r : ℕ) → is_hit (who_in l.initial.self l.session) l.initial.self.transactions (g.L.ChangeLog.records l.log) (numbered l.catalog r) ≡ true →
      is_candidate_of l.self.transactions l.session r ≡ is_candidate_of l.initial.self.transactions l.session r;
  sessions : OtherSessionsStay l.initial.self.transactions l.self.transactions l.session;
  sound : AreSound (who_in l.self l.session) (g.L.ChangeLog.records l.log) l.shared;
  same : l.self ≡ record l.initial.self { transactions = l.self.transactions };
}

abbrev pub decreases-loop-rule : goal.decreases-loop-rule
decreases-loop-rule g l = rule_limit - l.next
