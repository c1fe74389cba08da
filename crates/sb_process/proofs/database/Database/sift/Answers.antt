use Rattle.std.proofs.Common.{◌≡◌, ◌∙◌, ◌⊎◌, inl, inr, ◌+◌, ◌<◌, ℕ, Bool, true, false, ◌&&◌, cond, nat_eq, sym, ap, refl, subst, arith, eq-eqb}
use Rattle.sb_value.specs.declared.id.Who.{Who}
use Rattle.sb_value.specs.Flags.{flag_at}
use Rattle.sb_catalog.specs.Rules.{numbered}
use Rattle.sb_rawlog.specs.Records.{Rising}
use Rattle.sb_process.specs.declared.database.Database.{Database}
use Rattle.sb_process.specs.Represents.{who_in}
use Rattle.sb_process.specs.Transactions.{Kept, tested_of, is_candidate_of}
use Rattle.sb_process.specs.Triggered.{is_hit}
use Rattle.sb_process.proofs.Sifting.{hit-same, left-candidates, left-hit, left-stay, left-other, last-below, seen-below}
use Rattle.sb_process.proofs.Testing.{between-now, can-left, past-left}
use Rattle.sb_process.proofs.database.Database.sift.Goals as goal

-- a rule that isn't hit leaves the set and the candidates
pub loop-rule-preserved-then-not-is_hit : goal.loop-rule-preserved-then-not-is_hit
loop-rule-preserved-then-not-is_hit g c =
    let session = c.args.session in
    let inv = c.loop-rule.invariant in
    let old : Kept = c.loop-rule.self.transactions in
    let rule : ℕ = c.in-Some.rule in
    let who : Who = who_in c.args.self.now session in
    let hit = λ (r : ℕ). is_hit who c.args.self.now.transactions (g.L.ChangeLog.records c.args.log.now) (numbered c.args.catalog.now r) in
    let flag = λ (r : ℕ). flag_at c.loop-rule.set r in
    let kept = λ (r : ℕ). is_candidate_of old session r in
    let own : nat_eq session session ≡ true = eq-eqb session session refl in
    let same = ap (λ (d : Database). who_in d session) inv.same in
    let seen = ap (λ (w : Who). is_hit w old (g.L.ChangeLog.records c.args.log.now) (numbered c.args.catalog.now rule)) same
    ∙ hit-same who c.args.self.now.transactions old (g.L.ChangeLog.records c.args.log.now) (numbered c.args.catalog.now rule) inv.marks in
    let missed : hit rule ≡ false = sym seen ∙ sym c.is_hit.ensures.hit ∙ c.if-not-is_hit.true in
    let told = c.leave.ensures.tested in
    let which : (told.0 ≡ g.L.ChangeLog.clock c.args.log.now) ⊎ (told.0 ≡ tested_of old session rule) = elim told.1 [ inl e ↦ inl (e ∙ c.now-now.ensures.clock) | inr e ↦ inr e ] in
    let tested = λ (r : ℕ). told.2 session r ∙ (λ i. cond (own i && nat_eq r rule) told.0 (tested_of old session r)) in
    record {
      marks = λ s r. c.leave.ensures.marks s r ∙ inv.marks s r;
      past = past-left who old c.leave.new.self (g.L.ChangeLog.records c.args.log.now) (g.L.ChangeLog.clock c.args.log.now) c.args.catalog.now rule told.0 which (λ r. c.leave.ensures.marks session r) tested inv.past;
      can = can-left who old c.leave.new.self (g.L.ChangeLog.records c.args.log.now) (g.L.ChangeLog.clock c.args.log.now) c.args.catalog.now rule told.0 which (λ r. c.leave.ensures.marks session r) tested
          (λ since le. between-now who since (g.L.ChangeLog.clock c.args.log.now) (g.L.ChangeLog.records c.args.log.now) (subst (Rising 0 (g.L.ChangeLog.records c.args.log.now)) c.now-now.ensures.clock c.now-now.ensures.rising)
          c.now-now.ensures.marks c.now-now.ensures.times le)
          inv.past inv.can (sym (ap (λ (w : Who). is_hit w old (g.L.ChangeLog.records c.args.log.now) (numbered c.args.catalog.now rule)) same) ∙ sym c.is_hit.ensures.hit ∙ c.if-not-is_hit.true);
      are_candidates = λ r. c.without-set.ensures.members r ∙ left-candidates hit rule flag kept (flag_at c.args.eligible) (nat_eq session session) own inv.are_candidates r
          ∙ ap (λ (b : Bool). b && flag_at c.args.eligible r) (sym (c.leave.ensures.candidates session r));
      are_hit = λ r l f.
          let below : r < rule + 1 = omega (arith, l, c.index-next.ensures.value) in
          left-hit hit rule flag kept (flag_at c.args.eligible) rule refl (seen-below c.loop-rule.next rule flag hit inv.are_hit c.in-Some.ensures.least) r below (sym (c.without-set.ensures.members r) ∙ f);
      stay = λ r it. c.leave.ensures.candidates session r
          ∙ left-stay hit rule flag kept (flag_at c.args.eligible) (nat_eq session session) own missed (is_candidate_of c.args.self.now.transactions session) inv.stay r it;
      sessions = λ s r other. (
        c.leave.ensures.marks s r ∙ (inv.sessions s r other).0,
        told.2 s r ∙ ap (λ (b : Bool). cond (b && nat_eq r rule) told.0 (tested_of old s r)) other ∙ (inv.sessions s r other).1,
        c.leave.ensures.candidates s r ∙ left-other (is_candidate_of old s r) (nat_eq s session) (nat_eq r rule) other ∙ (inv.sessions s r other).2,
      );
      sound = c.is_hit.ensures.sound;
      same = ap (λ (d : Database). record d { transactions = c.leave.new.self }) inv.same;
    }

-- a rule that is hit stays
pub loop-rule-preserved : goal.loop-rule-preserved
loop-rule-preserved g c =
    let session = c.args.session in
    let inv = c.loop-rule.invariant in
    let old : Kept = c.loop-rule.self.transactions in
    let rule : ℕ = c.in-Some.rule in
    let who : Who = who_in c.args.self.now session in
    let hit = λ (r : ℕ). is_hit who c.args.self.now.transactions (g.L.ChangeLog.records c.args.log.now) (numbered c.args.catalog.now r) in
    let flag = λ (r : ℕ). flag_at c.loop-rule.set r in
    let seen = ap (λ (w : Who). is_hit w old (g.L.ChangeLog.records c.args.log.now) (numbered c.args.catalog.now rule)) (ap (λ (d : Database). who_in d session) inv.same)
    ∙ hit-same who c.args.self.now.transactions old (g.L.ChangeLog.records c.args.log.now) (numbered c.args.catalog.now rule) inv.marks in
    let met : hit rule ≡ true = sym seen ∙ sym c.is_hit.ensures.hit ∙ c.if-not-is_hit.false in
    record {
      marks = inv.marks;
      past = inv.past;
      can = inv.can;
      are_candidates = inv.are_candidates;
      are_hit = λ r l f.
          let below : r < rule + 1 = omega (arith, l, c.index-next.ensures.value) in
          last-below (λ (k : ℕ). flag k ≡ true → hit k ≡ true) rule r below (λ less. seen-below c.loop-rule.next rule flag hit inv.are_hit c.in-Some.ensures.least r less) (λ _. met) f;
      stay = inv.stay;
      sessions = inv.sessions;
      sound = c.is_hit.ensures.sound;
      same = inv.same;
    }
