-- Processing, consideration by consideration.
use Rattle.std.proofs.Common.{◌≡◌, ◌≢◌, ◌∙◌, ◌⊎◌, inl, inr, ℕ, zero, suc, Bool, true, false, nat_eq, cond, List, [], ◌∷◌, ◌++◌, map, filter, Option, Some, None, option_and_then, Result, Ok, Err, IfOk, OnOk, refl, sym, ap, subst, append_assoc, append-nil}
use Rattle.std.proofs.lemmas.Option.{none-some, same_Some}
use Rattle.std.specs.declared.alloc.AllocError.{AllocError}
use Rattle.sb_value.specs.declared.refusal.Refusal.{Refusal}
use Rattle.sb_value.specs.declared.refusal.Refusal.TheVariants.{NoMemory}
use Rattle.sb_value.specs.declared.refusal.Verdict.{Verdict}
use Rattle.sb_value.specs.declared.refusal.Verdict.TheVariants as verdict
use Rattle.sb_value.specs.Order.{chosen}
use Rattle.sb_catalog.specs.declared.rule.Rule.{Rule}
use Rattle.sb_catalog.specs.Rules.{numbered}
use Rattle.sb_tables.specs.Held.{Held, has_number}
use Rattle.sb_index.specs.TableSets.{TableSets}
use Rattle.sb_priority.specs.Ranks.{Ranks}
use Rattle.sb_rawlog.specs.Records.{Record}
use Rattle.sb_eval.specs.Statement.{query_locks}
use Rattle.sb_check.specs.Condition.{Query}
use Rattle.sb_process.specs.declared.Outcome.{Outcome}
use Rattle.sb_process.specs.declared.Outcome.TheVariants.{Done, ByRule, ByError, ByLimit}
use Rattle.sb_process.specs.declared.consider.Consideration.{Consideration}
use Rattle.sb_process.specs.declared.database.Database.{Database}
use Rattle.sb_process.specs.Consider.{ran, rolled_back, refused, Considered, was_false, was_true, was_refused, consider}
use Rattle.sb_process.specs.Process.{Processing, ended, after_verdict, process, stands_after}
use Rattle.sb_process.specs.Represents.{Represents, IsTakenBack}
use Rattle.sb_process.specs.Running.{ComesTo, Goes, Notes, Finds, outcome_noted, verdict_noted, verdict_of, outcome_of, left_by, is_done}
use Rattle.sb_process.specs.Setting.{Setting, Progress, is_candidate, next_rule}
use Rattle.sb_process.specs.Transactions.{OtherSessionsStay}
use Rattle.sb_process.specs.Work.{CanRun, CanRunRule, IsConditionThere, IsWork, Stands, Processes}
use Rattle.sb_process.proofs.Leaving.{sessions-on}
use Rattle.sb_process.proofs.Works.{work-with}
use Rattle.sb_process.proofs.Running.{there-same, actions-there, same-numbers, comes-on}

-- ---- a verdict

module _ (S : Progress → Type 0) (rule : ℕ) (progress : Progress) (old new : List (ℕ × Verdict)) where
  notes-of : (meant : Considered) (r : Result Consideration Refusal) (o : Option Outcome) → Goes S meant r → o ≡ outcome_noted rule r → new ≡ old ++ (rule, verdict_noted r) ∷ [] → Notes S rule progress meant old new o
  notes-of (was_false p) r o h e v = record { outcome = e ∙ ap (outcome_noted rule) h.0; verdict = v ∙ ap (λ x. old ++ (rule, verdict_noted x) ∷ []) h.0; comes_to = λ is. h.1 }
  notes-of (was_true (ran p)) r o h e v = record { outcome = e ∙ ap (outcome_noted rule) h.0; verdict = v ∙ ap (λ x. old ++ (rule, verdict_noted x) ∷ []) h.0; comes_to = λ is. h.1 }
  notes-of (was_true rolled_back) r o h e v = record { outcome = e ∙ ap (outcome_noted rule) h; verdict = v ∙ ap (λ x. old ++ (rule, verdict_noted x) ∷ []) h; comes_to = λ is. absurd (none-some (ByRule rule) (sym is ∙ e ∙ ap (outcome_noted rule) h)) }
  notes-of (was_true (refused f)) r o h e v = record { outcome = e ∙ ap (outcome_noted rule) h; verdict = v ∙ ap (λ x. old ++ (rule, verdict_noted x) ∷ []) h; comes_to = λ is. absurd (none-some (ByError rule f) (sym is ∙ e ∙ ap (outcome_noted rule) h)) }
  notes-of (was_refused f) r o h e v = record { outcome = e ∙ ap (outcome_noted rule) h; verdict = v ∙ ap (λ x. old ++ (rule, verdict_noted x) ∷ []) h; comes_to = λ is. absurd (none-some (ByError rule f) (sym is ∙ e ∙ ap (outcome_noted rule) h)) }

  pub noted-as : (meant : Considered) (r : Result Consideration Refusal) (result : Result (Option Outcome) AllocError) → Goes S meant r ⊎ (r ≡ Err NoMemory) → IfOk result (λ o. o ≡ outcome_noted rule r) →
      OnOk result (new ≡ old ++ (rule, verdict_noted r) ∷ []) → OnOk result (r ≢ Err NoMemory) → IfOk result (λ o. Notes S rule progress meant old new o)
  noted-as meant r (Ok o) (inl h) e v m = notes-of meant r o h e v
  noted-as meant r (Ok o) (inr h) e v m = absurd (m h)
  noted-as meant r (Err f) h e v m = tt

-- ---- the definition, once the next rule is known

module _ (setting : Setting) (eligible : ℕ → Bool) where
  -- with what the rule's consideration came to, and n left
  abbrev goes_on : ℕ → Progress → Rule → Considered → Processing
  goes_on n p rule meant =
      elim meant as (λ _. Processing) [
        | was_false q ↦ after_verdict (rule.id, verdict.False) (process n setting eligible q)
        | was_true ending ↦ elim ending as (λ _. Processing) [
          | ran q ↦ after_verdict (rule.id, verdict.True) (process n setting eligible q)
          | rolled_back ↦ ended (ByRule rule.id) ((rule.id, verdict.True) ∷ []) p
          | refused f ↦ ended (ByError rule.id f) ((rule.id, verdict.Error) ∷ []) p
        ]
        | was_refused f ↦ ended (ByError rule.id f) ((rule.id, verdict.Error) ∷ []) p
      ]

  none-next : (n : ℕ) (p : Progress) → next_rule setting eligible p ≡ None → process n setting eligible p ≡ ended Done [] p
  none-next zero p e = λ i. elim (e i) as (λ _. Processing) [ None ↦ ended Done [] p | Some rule ↦ ended ByLimit [] p ]
  none-next (suc n) p e = λ i. elim (e i) as (λ _. Processing) [ None ↦ ended Done [] p | Some rule ↦ goes_on n p rule (consider setting rule p) ]

  limit-next : (p : Progress) (rule : Rule) → next_rule setting eligible p ≡ Some rule → process zero setting eligible p ≡ ended ByLimit [] p
  limit-next p rule e = λ i. elim (e i) as (λ _. Processing) [ None ↦ ended Done [] p | Some r ↦ ended ByLimit [] p ]

  some-next : (n : ℕ) (p : Progress) (rule : Rule) → next_rule setting eligible p ≡ Some rule → process (suc n) setting eligible p ≡ goes_on n p rule (consider setting rule p)
  some-next n p rule e = λ i. elim (e i) as (λ _. Processing) [ None ↦ ended Done [] p | Some r ↦ goes_on n p r (consider setting r p) ]

  none-left : (n : ℕ) (p : Progress) (rule : Rule) (meant : Considered) → outcome_of rule.id meant ≡ None → goes_on n p rule meant ≡ after_verdict (rule.id, verdict_of meant) (process n setting eligible (left_by p meant))
  none-left n p rule (was_false q) e = refl
  none-left n p rule (was_true (ran q)) e = refl
  none-left n p rule (was_true rolled_back) e = absurd (none-some (ByRule rule.id) (sym e))
  none-left n p rule (was_true (refused f)) e = absurd (none-some (ByError rule.id f) (sym e))
  none-left n p rule (was_refused f) e = absurd (none-some (ByError rule.id f) (sym e))

  some-left : (n : ℕ) (p : Progress) (rule : Rule) (meant : Considered) (o : Outcome) → Some o ≡ outcome_of rule.id meant → goes_on n p rule meant ≡ ended o ((rule.id, verdict_of meant) ∷ []) p
  some-left n p rule (was_false q) o e = absurd (none-some o (sym e))
  some-left n p rule (was_true (ran q)) o e = absurd (none-some o (sym e))
  some-left n p rule (was_true rolled_back) o e = ap (λ (x : Outcome). ended x ((rule.id, verdict.True) ∷ []) p) (sym (same_Some o (ByRule rule.id) e))
  some-left n p rule (was_true (refused f)) o e = ap (λ (x : Outcome). ended x ((rule.id, verdict.Error) ∷ []) p) (sym (same_Some o (ByError rule.id f) e))
  some-left n p rule (was_refused f) o e = ap (λ (x : Outcome). ended x ((rule.id, verdict.Error) ∷ []) p) (sym (same_Some o (ByError rule.id f) e))

  -- no outcome of a consideration is that all is done
  not-done : (rule : ℕ) (meant : Considered) (o : Outcome) → Some o ≡ outcome_of rule meant → o ≢ Done
  not-done rule (was_false q) o e d = absurd (none-some o (sym e))
  not-done rule (was_true (ran q)) o e d = absurd (none-some o (sym e))
  not-done rule (was_true rolled_back) o e d = absurd (let same = same_Some o (ByRule rule) e in cc)
  not-done rule (was_true (refused f)) o e d = absurd (let same = same_Some o (ByError rule f) e in cc)
  not-done rule (was_refused f) o e d = absurd (let same = same_Some o (ByError rule f) e in cc)

-- verdicts before the others
abbrev pub behind : List (ℕ × Verdict) → Processing → Processing
behind vs q = record q { trace = vs ++ q.trace }

behind-more : (vs : List (ℕ × Verdict)) (v : ℕ × Verdict) (q : Processing) → behind vs (after_verdict v q) ≡ behind (vs ++ v ∷ []) q
behind-more vs v q = λ i. record q { trace = sym (append_assoc vs (v ∷ []) q.trace) i }

-- ---- so far, with some considerations left

pub record Reaches (stands : Progress → Type 0) (setting : Setting) (eligible : ℕ → Bool) (progress : Progress) (all left : ℕ) (old new : List (ℕ × Verdict)) : Type 0 where
  pub after : Progress
  pub comes_to : stands after
  pub noted : List (ℕ × Verdict)
  pub trace : new ≡ old ++ noted
  pub meant : process all setting eligible progress ≡ behind noted (process left setting eligible after)

module _ (setting : Setting) (eligible : ℕ → Bool) (progress : Progress) (all left : ℕ) (old mid : List (ℕ × Verdict)) (M : Progress → Type 0) (r : Reaches M setting eligible progress all left old mid) where
  -- no rule is left
  pub finds-done : (S : Progress → Type 0) → (M r.after → S r.after) → next_rule setting eligible r.after ≡ None → Finds S (process all setting eligible progress) old mid Done
  finds-done S f e =
      let m = r.meant ∙ ap (behind r.noted) (none-next setting eligible left r.after e) in
      record {
        outcome = sym (ap (λ (q : Processing). q.outcome) m);
        trace = r.trace ∙ ap (λ l. old ++ l) (sym (ap (λ (q : Processing). q.trace) m ∙ append-nil r.noted));
        comes_to = λ is. subst S (sym (ap (λ (q : Processing). q.progress) m)) (f r.comes_to);
      }

  pub finds-limit : (S : Progress → Type 0) (rule : Rule) → left ≡ 0 → next_rule setting eligible r.after ≡ Some rule → Finds S (process all setting eligible progress) old mid ByLimit
  finds-limit S rule z e =
      let m = r.meant ∙ ap (λ (n : ℕ). behind r.noted (process n setting eligible r.after)) z ∙ ap (behind r.noted) (limit-next setting eligible r.after rule e) in
      record {
        outcome = sym (ap (λ (q : Processing). q.outcome) m);
        trace = r.trace ∙ ap (λ l. old ++ l) (sym (ap (λ (q : Processing). q.trace) m ∙ append-nil r.noted));
        comes_to = λ is. absurd (cc);
      }

  -- a rule is considered
  module _ (rule : Rule) (e : next_rule setting eligible r.after ≡ Some rule) (n : ℕ) (more : left ≡ suc n) (new : List (ℕ × Verdict)) (R : Progress → Type 0) (ending : Option Outcome)
      (h : Notes R rule.id r.after (consider setting rule r.after) mid new ending) where
    whole : process all setting eligible progress ≡ behind r.noted (goes_on setting eligible n r.after rule (consider setting rule r.after))
    whole = r.meant ∙ ap (λ (k : ℕ). behind r.noted (process k setting eligible r.after)) more ∙ ap (behind r.noted) (some-next setting eligible n r.after rule e)

    pub finds-outcome : (S : Progress → Type 0) (o : Outcome) → ending ≡ Some o → Finds S (process all setting eligible progress) old new o
    finds-outcome S o is =
        let m = whole ∙ ap (behind r.noted) (some-left setting eligible n r.after rule (consider setting rule r.after) o (sym is ∙ h.outcome)) in
        record {
          outcome = sym (ap (λ (q : Processing). q.outcome) m);
          trace = h.verdict ∙ ap (λ l. l ++ (rule.id, verdict_of (consider setting rule r.after)) ∷ []) r.trace ∙ append_assoc old r.noted ((rule.id, verdict_of (consider setting rule r.after)) ∷ [])
              ∙ ap (λ l. old ++ l) (sym (ap (λ (q : Processing). q.trace) m));
          comes_to = λ d. absurd (not-done setting eligible rule.id (consider setting rule r.after) o (sym is ∙ h.outcome) d);
        }

    pub reaches-more : (S : Progress → Type 0) → ((q : Progress) → R q → S q) → ending ≡ None → Reaches S setting eligible progress all n old new
    reaches-more S f is = record {
      after = left_by r.after (consider setting rule r.after);
      comes_to = f (left_by r.after (consider setting rule r.after)) (h.comes_to is);
      noted = r.noted ++ (rule.id, verdict_of (consider setting rule r.after)) ∷ [];
      trace = h.verdict ∙ ap (λ l. l ++ (rule.id, verdict_of (consider setting rule r.after)) ∷ []) r.trace ∙ append_assoc old r.noted ((rule.id, verdict_of (consider setting rule r.after)) ∷ []);
      meant = whole ∙ ap (behind r.noted) (none-left setting eligible n r.after rule (consider setting rule r.after) (sym h.outcome ∙ is))
          ∙ behind-more r.noted (rule.id, verdict_of (consider setting rule r.after)) (process n setting eligible (left_by r.after (consider setting rule r.after)));
    }

-- ---- the work goes on

-- the rule that is next is in the catalog
found-can-run : (tables : List Held) (rules : List Rule) (id : ℕ) (rule : Rule) → numbered rules id ≡ Some rule → CanRun tables rules → CanRunRule tables rule
found-can-run tables [] id rule e h = absurd (none-some rule e)
found-can-run tables (r ∷ rules) id rule e h = by (nat_eq r.id id) e (λ p. found-can-run tables rules id rule p h.1)
  where
    by : (b : Bool) → cond b (Some r) (numbered rules id) ≡ Some rule → (numbered rules id ≡ Some rule → CanRunRule tables rule) → CanRunRule tables rule
    by true p rest = subst (CanRunRule tables) (same_Some r rule p) h.0
    by false p rest = rest p

and-then-some : (f : ℕ → Option Rule) (o : Option ℕ) (rule : Rule) → option_and_then f o ≡ Some rule → (id : ℕ) × (f id ≡ Some rule)
and-then-some f None rule e = absurd (none-some rule e)
and-then-some f (Some id) rule e = (id, e)

condition-there : (old new : List Held) → ((id : ℕ) → has_number new id ≡ has_number old id) → (condition : Option Query) → IsConditionThere old condition → IsConditionThere new condition
condition-there old new e None h = tt
condition-there old new e (Some q) h = there-same old new e (query_locks q) h

pub if-ok : {A : Type 0} (P : A → Type 0) (r : Result A AllocError) (x : A) → r ≡ Ok x → IfOk r P → P x
if-ok P r x e h = subst (λ s. IfOk s P) e h

-- from where the work has come to
module _ {origin : List Held} {start now : Database} {session : ℕ} {records later : List Record} {clock time : ℕ} {index : List (List TableSets)} {catalog : List Rule} {order : Ranks} {setting : Setting} {progress : Progress} {eligible : ℕ → Bool} {all left : ℕ} {old mid : List (ℕ × Verdict)}
    (w : IsWork origin start session records clock index catalog order setting progress) (r : Reaches (λ q. ComesTo origin now session later time setting progress q) setting eligible progress all left old mid) (same : now.id ≡ start.id) where
  pub at-work : IsWork origin now session later time index catalog order setting r.after
  at-work = work-with w r.comes_to.stands (sym same)

  -- the next rule is looked for, which changes neither tables nor locks
  module _ {seen : Database} (on : IsWork origin now session later time index catalog order setting r.after → IsWork origin seen session later time index catalog order setting r.after) where
    pub looked-on : ComesTo origin seen session later time setting progress r.after
    looked-on = record { stands = (on at-work).transaction; locks = r.comes_to.locks }

    pub runs-on : IsWork origin seen session later time index catalog order setting r.after
    runs-on = on at-work

    -- the transaction goes on with what the rule comes to
    pub considered-on : {new : Database} {last : List Record} {end : ℕ} → (IsWork origin seen session later time index catalog order setting r.after → (after : Progress) × ComesTo origin new session last end setting r.after after) →
        (after : Progress) × ComesTo origin new session last end setting progress after
    considered-on {new} {last} {end} goes =
        let come = goes runs-on in
        (come.0, comes-on origin session setting progress r.after come.0 seen new later last time end looked-on come.1)

    module _ {found : Option Rule} (next : IsWork origin now session later time index catalog order setting r.after → found ≡ next_rule setting eligible r.after) where
      pub looked-done : found ≡ None → Finds (λ q. ComesTo origin seen session later time setting progress q) (process all setting eligible progress) old mid Done
      looked-done none = finds-done setting eligible progress all left old mid (λ q. ComesTo origin now session later time setting progress q) r (λ q. ComesTo origin seen session later time setting progress q) (λ h. looked-on) (sym (next at-work) ∙ none)

      pub looked-limit : (rule : Rule) → found ≡ Some rule → left ≡ 0 → Finds (λ q. ComesTo origin seen session later time setting progress q) (process all setting eligible progress) old mid ByLimit
      looked-limit rule some none = finds-limit setting eligible progress all left old mid (λ q. ComesTo origin now session later time setting progress q) r (λ q. ComesTo origin seen session later time setting progress q) rule none (sym (next at-work) ∙ some)

      module _ (rule : Rule) (some : found ≡ Some rule) where
        is-next : next_rule setting eligible r.after ≡ Some rule
        is-next = sym (next at-work) ∙ some

        pub looked-can-run : CanRun start.tables catalog → CanRunRule seen.tables rule
        looked-can-run h =
            let chosen_id = and-then-some (numbered setting.rules) (chosen setting.pairs (map (λ (x : Rule). x.id) (filter (is_candidate eligible r.after) setting.rules))) rule is-next in
            let can = found-can-run start.tables catalog chosen_id.0 rule (ap (λ (rules : List Rule). numbered rules chosen_id.0) (sym w.rules) ∙ chosen_id.1) h in
            let there = same-numbers origin session setting progress start records clock w.transaction seen later time r.after looked-on in
            (condition-there start.tables seen.tables there rule.condition can.0, actions-there start.tables seen.tables there rule.actions can.1, can.2)

        -- the rule is considered and noted
        module _ {new : Database} {last : List Record} {end : ℕ} {verdicts : List (ℕ × Verdict)} {result : Result (Option Outcome) AllocError}
            (noted : IsWork origin seen session later time index catalog order setting r.after → IfOk result (λ o. Notes (λ q. ComesTo origin new session last end setting r.after q) rule.id r.after (consider setting rule r.after) mid verdicts o)) (n : ℕ) (more : left ≡ suc n) where
          notes : (ending : Option Outcome) → result ≡ Ok ending → Notes (λ q. ComesTo origin new session last end setting r.after q) rule.id r.after (consider setting rule r.after) mid verdicts ending
          notes ending is = if-ok (λ (o : Option Outcome). Notes (λ q. ComesTo origin new session last end setting r.after q) rule.id r.after (consider setting rule r.after) mid verdicts o) result ending is (noted runs-on)

          pub turn-ends : (o : Outcome) → result ≡ Ok (Some o) → Finds (λ q. ComesTo origin new session last end setting progress q) (process all setting eligible progress) old verdicts o
          turn-ends o is = finds-outcome setting eligible progress all left old mid (λ q. ComesTo origin now session later time setting progress q) r rule is-next n more verdicts (λ q. ComesTo origin new session last end setting r.after q) (Some o) (notes (Some o) is)
              (λ q. ComesTo origin new session last end setting progress q) o refl

          pub turn-goes-on : result ≡ Ok None → Reaches (λ q. ComesTo origin new session last end setting progress q) setting eligible progress all n old verdicts
          turn-goes-on is = reaches-more setting eligible progress all left old mid (λ q. ComesTo origin now session later time setting progress q) r rule is-next n more verdicts (λ q. ComesTo origin new session last end setting r.after q) None (notes None is)
              (λ q. ComesTo origin new session last end setting progress q) (λ q h. comes-on origin session setting progress r.after q seen new later last time end looked-on h) refl

-- ---- the end

pub done-is : (o : Outcome) → is_done o ≡ true → o ≡ Done
done-is Done e = refl
done-is (ByRule r) e = absurd (cc)
done-is (ByError r f) e = absurd (cc)
done-is ByLimit e = absurd (cc)

module _ (origin : List Held) (old new : Database) (session : ℕ) (records : List Record) (clock : ℕ) (setting : Setting) (progress : Progress) where
  pub taken-back : (mid : Database) (earlier : List Record) (time : ℕ) (after : Progress) → ComesTo origin mid session earlier time setting progress after → mid.id ≡ old.id → OtherSessionsStay old.transactions mid.transactions session →
      IsTakenBack origin mid new session records setting after → IsTakenBack origin old new session records setting progress
  taken-back mid earlier time after k same f b = record {
    id = b.id ∙ same;
    none = b.none;
    tables = b.tables;
    made = b.made;
    locks = λ s t m. b.locks s t m ∙ k.locks s t m;
    sessions = sessions-on old.transactions mid.transactions new.transactions session f b.sessions;
  }

  stands-back : (o : Outcome) (p : Progress) → is_done o ≡ false → IsTakenBack origin old new session records setting progress → Stands origin old new session records clock setting progress (stands_after o p)
  stands-back Done p e h = absurd (cc)
  stands-back (ByRule r) p e h = h
  stands-back (ByError r f) p e h = h
  stands-back ByLimit p e h = h

  pub processes-done : (S : Progress → Type 0) (meant : Processing) (verdicts empty : List (ℕ × Verdict)) (o : Outcome) → empty ≡ [] → ((q : Progress) → S q → Represents origin new session records clock setting q) →
      is_done o ≡ true → Finds S meant empty verdicts o → Processes origin old new session o verdicts records clock setting progress meant
  processes-done S meant verdicts empty o none f d h = record {
    outcome = h.outcome;
    trace = h.trace ∙ ap (λ l. l ++ meant.trace) none;
    stands = subst (λ (x : Outcome). Stands origin old new session records clock setting progress (stands_after x meant.progress)) (sym (done-is o d) ∙ h.outcome) (f meant.progress (h.comes_to (done-is o d)));
  }

  pub processes-back : (S : Progress → Type 0) (meant : Processing) (verdicts empty : List (ℕ × Verdict)) (o : Outcome) → empty ≡ [] → is_done o ≡ false → IsTakenBack origin old new session records setting progress →
      Finds S meant empty verdicts o → Processes origin old new session o verdicts records clock setting progress meant
  processes-back S meant verdicts empty o none d b h = record {
    outcome = h.outcome;
    trace = h.trace ∙ ap (λ l. l ++ meant.trace) none;
    stands = stands-back meant.outcome meant.progress (ap is_done (sym h.outcome) ∙ d) b;
  }
