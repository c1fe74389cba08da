use Rattle.std.proofs.Common.{◌∙◌, ℕ, cond, Bool, List, [], ◌∷◌, Option, sym, ap, refl, arith, true≢false}
use Rattle.sb_catalog.specs.declared.rule.Rule.{Rule}
use Rattle.sb_process.specs.Transactions.{Kept, mark_of, tested_of}
use Rattle.sb_process.specs.Represents.{AreCandidates, begun, who_in}
use Rattle.sb_value.specs.Locks.{Locks}
use Rattle.sb_locks.specs.Held.{held}
use Rattle.sb_process.proofs.Settling.{same_number}
use Rattle.sb_process.proofs.MarkLaws.{none_before}
use Rattle.sb_process.proofs.Testing.{none-untriggered}
use Rattle.sb_process.proofs.database.Database.begin.Goals as goal

-- no changes trigger nothing
no_candidates : (kept : Kept) (session : ℕ) (locks : Locks) (left : Option ℕ) (rules : List Rule) → AreCandidates kept session (begun locks left) rules
no_candidates kept session locks left [] = tt
no_candidates kept session locks left (r ∷ rules) = (λ active triggered. absurd (true≢false (sym triggered)), no_candidates kept session locks left rules)

pub returns-clause-begun : goal.returns-clause-begun
returns-clause-begun c = λ origin records clock setting i.
    let zero = λ (r : ℕ). c.begin.ensures.marks c.args.session r ∙ ap (λ (b : Bool). cond b 0 (mark_of c.args.self.now.transactions c.args.session r)) (same_number c.args.session) in
    let start = λ (r : ℕ). c.begin.ensures.tested c.args.session r ∙ ap (λ (b : Bool). cond b 0 (tested_of c.args.self.now.transactions c.args.session r)) (same_number c.args.session) in
    record {
      who = i.who;
      changes = i.none;
      past = λ r. rw (zero r) (omega arith);
      tested = λ r. let m = zero r in let t = start r in (omega arith, omega arith);
      untriggered = none-untriggered (who_in c.args.self.now c.args.session) c.begin.new.self records i.none setting.rules;
      marks = λ r. none_before (who_in c.args.self.now c.args.session) (mark_of c.begin.new.self c.args.session r) records i.none;
      base = i.base;
      made = i.made;
      locks = λ s t m. refl;
      locked = tt;
      candidates = no_candidates c.begin.new.self c.args.session (held c.args.self.now.locks) c.args.self.now.left setting.rules;
      left = refl;
    }
