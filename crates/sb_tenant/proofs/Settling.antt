-- A tenant with no session open, whose transactions have no times any more.
use Rattle.std.proofs.Common.{None, ◌≡◌, ◌∙◌, ℕ, true, false, List, [], ◌∷◌, length, refl, sym, ap, arith, IsTrue}
use Rattle.sb_value.specs.declared.change.Change.{Change}
use Rattle.sb_rawlog.specs.Records.{Record, before}
use Rattle.sb_rawlog.specs.Sessions.{changes}
use Rattle.sb_tables.specs.Held.{Held}
use Rattle.sb_index.specs.TableSets.{TableSets}
use Rattle.sb_process.specs.Transactions.{Kept, mark_of, tested_of}
use Rattle.sb_tenant.specs.declared.store.Store.{Store}
use Rattle.sb_tenant.specs.Lending.{HoldRules}
use Rattle.sb_tenant.specs.Limits.{is_session}
use Rattle.sb_tenant.specs.Logged.{Agrees, who_of}
use Rattle.sb_tenant.specs.Represents.{Holds}
use Rattle.sb_tenant.specs.State.{State, Session, closed, idle, active, session_at, is_open, changes_of, marks_of, progress_of}
use Rattle.sb_tenant.specs.Volumes.{AreClosed}
use Rattle.sb_tenant.proofs.Moves.{no-candidates, none-untriggered}
use Rattle.sb_tenant.proofs.Steps.{none_before}

-- a session that is closed has no changes and no marks
none_changed : (x : Session) → is_open x ≡ false → changes_of x ≡ []
none_changed closed h = refl
none_changed idle h = absurd (cc h)
none_changed (active changes marks) h = absurd (cc h)

none_marked : (x : Session) → is_open x ≡ false → (rule : ℕ) → marks_of x rule ≡ 0
none_marked closed h rule = refl
none_marked idle h rule = absurd (cc h)
none_marked (active changes marks) h rule = absurd (cc h)

-- memory holds the state, whatever times and candidates are kept
pub settled_holds : (origin : List Held) (store : Store) (state : State) (kept : Kept) → AreClosed state → Holds origin store state →
    Holds origin (record store { database = record store.database { transactions = kept } }) state
settled_holds origin store state kept shut h = record {
  committed = h.committed;
  made = h.made;
  locked = h.locked;
  exclusive = h.exclusive;
  locks = h.locks;
  phases = h.phases;
  candidates = λ s is. no-candidates kept s (progress_of None state s) (none_changed (session_at state s) (shut s is)) state.catalog.rules;
  rules = h.rules;
  ordered = h.ordered;
  rulesets = h.rulesets;
  runnable = h.runnable;
}

-- without times it agrees with a log that has nothing of it, whatever its clock
pub settled_agrees : (id : ℕ) (state : State) (kept : Kept) → AreClosed state → ((s r : ℕ) → mark_of kept s r ≡ 0) → ((s r : ℕ) → tested_of kept s r ≡ 0) →
    (records : List Record) (clock : ℕ) (index : List (List TableSets)) → HoldRules id state.catalog.rules records index → Agrees id state kept records clock index
settled_agrees id state kept shut marks tested records clock index held = record {
  transactions = λ s is. ap changes (held.0 s) ∙ sym (none_changed (session_at state s) (shut s is));
  marks = λ s is rule.
      let none = marks s rule in (
        omega (arith, none),
        ap (λ (rs : List Record). length (before (mark_of kept s rule) rs)) (held.0 s) ∙ none_before (mark_of kept s rule) ∙ sym (none_marked (session_at state s) (shut s is) rule),
      );
  past = λ s is rule. let m = marks s rule in let t = tested s rule in (omega (arith, m, t), omega (arith, t));
  untriggered = λ s is. none-untriggered (who_of id s) kept records (ap changes (held.0 s)) state.catalog.rules;
  indexed = held.1;
}
