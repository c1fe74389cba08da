-- What requests, changes and marks keep, processing keeps.
use Rattle.std.proofs.Common.{◌≡◌, ℕ, zero, suc, Bool, true, false, cond, nat_eq, List, [], ◌∷◌, ◌++◌, Option, Some, None, Result, Ok, Err, refl, subst, IsTrue}
use Rattle.std.specs.Prelude.{find, option_and_then}
use Rattle.std.proofs.lemmas.Option.{none-some}
use Rattle.sb_tenant.specs.declared.bound.Bound.{Bound}
use Rattle.sb_value.specs.declared.value.Value.{Value}
use Rattle.sb_value.specs.declared.change.Change.{Change}
use Rattle.sb_value.specs.declared.net.Transition.{Transition}
use Rattle.sb_value.specs.declared.lock.LockMode.{LockMode}
use Rattle.sb_value.specs.declared.lock.LockMode.TheVariants.{Write}
use Rattle.sb_value.specs.declared.refusal.Refusal.{Refusal}
use Rattle.sb_value.specs.declared.refusal.Refusal.TheVariants.{Locked}
use Rattle.sb_value.specs.declared.refusal.Verdict.TheVariants as verdict
use Rattle.sb_value.specs.Locks.{first_conflict, with_locks}
use Rattle.sb_value.specs.Table.{name_at}
use Rattle.sb_check.specs.Condition.{Query}
use Rattle.sb_check.specs.declared.tree.Statement.{Statement}
use Rattle.sb_check.specs.declared.tree.Action.{Action}
use Rattle.sb_check.specs.declared.tree.Action.TheVariants as action
use Rattle.sb_catalog.specs.declared.rule.Rule.{Rule}
use Rattle.sb_eval.specs.Statement.{query_locks, statement_locks, condition_rows, statement_changes}
use Rattle.sb_eval.specs.Seen.{row_count}
use Rattle.sb_eval.specs.Target.{target}
use Rattle.sb_eval.specs.Work.{query_work}
use Rattle.sb_process.specs.declared.Outcome.TheVariants.{Done, ByRule, ByError, ByLimit}
use Rattle.sb_process.specs.Consider.{with_request, with_effect, statement_effect, test_query, run_statement, Ending, ran, rolled_back, refused, run_actions, test_rows, test_condition, Considered, was_false, was_true, was_refused, consider}
use Rattle.sb_process.specs.Process.{Processing, ended, after_verdict, process}
use Rattle.sb_process.specs.Setting.{Setting, Progress, next_rule, rule_tables, marked, seen_with}
use Rattle.sb_value.specs.declared.refusal.Refusal.TheVariants as refusal
use Rattle.sb_tenant.specs.declared.reply.Answer.{Answer}
use Rattle.sb_tenant.specs.declared.reply.Reply.TheVariants as reply
use Rattle.sb_tenant.specs.State.{State}
use Rattle.sb_tenant.specs.Step.{is_full_for, numbered, reply_to, step}
use Rattle.sb_tenant.proofs.Charging.{effect-changes, with-each}
use Rattle.sb_tenant.proofs.Targets.{target-asked}

-- each statement of the rules passes
abbrev pub AreGoodActions : (Statement → Type 0) → List Action → Type 0
AreGoodActions Good [] = Unit {0}
AreGoodActions Good (action.Rollback ∷ actions) = AreGoodActions Good actions
AreGoodActions Good (action.Change statement ∷ actions) = Good statement × AreGoodActions Good actions

abbrev pub AreGoodRules : (Statement → Type 0) → List Rule → Type 0
AreGoodRules Good [] = Unit {0}
AreGoodRules Good (rule ∷ rules) = AreGoodActions Good rule.actions × AreGoodRules Good rules

-- any statement passes
abbrev pub Any : Statement → Type 0
Any statement = Unit {0}

any-actions : (actions : List Action) → AreGoodActions Any actions
any-actions [] = tt
any-actions (action.Rollback ∷ actions) = any-actions actions
any-actions (action.Change statement ∷ actions) = (tt, any-actions actions)

pub any-rules : (rules : List Rule) → AreGoodRules Any rules
any-rules [] = tt
any-rules (rule ∷ rules) = (any-actions rule.actions, any-rules rules)

good-found : (Good : Statement → Type 0) (test : Rule → Bool) (rules : List Rule) → AreGoodRules Good rules → (rule : Rule) → find test rules ≡ Some rule → AreGoodActions Good rule.actions
good-found Good test [] h rule e = absurd (none-some rule e)
good-found Good test (r ∷ rules) h rule e = by (test r) e (good-found Good test rules h.1 rule)
  where
    GoodIn : Option Rule → Type 0
    GoodIn None = Unit {0}
    GoodIn (Some x) = AreGoodActions Good x.actions

    by : (b : Bool) → cond b (Some r) (find test rules) ≡ Some rule → (find test rules ≡ Some rule → AreGoodActions Good rule.actions) → AreGoodActions Good rule.actions
    by true p rest = subst (λ (o : Option Rule). GoodIn o) p h.0
    by false p rest = rest p

abbrev pub OkIn : {A : Type 0} → (A → Type 0) → Result A Refusal → Type 0
OkIn K (Ok x) = K x
OkIn K (Err refusal) = Unit {0}

-- a property of the progress that requests, marks, the changes of good statements and the budget keep
pub record IsKept (setting : Setting) (Good : Statement → Type 0) (Keeps : Progress → Type 0) : Type 0 where
  pub mark : (rule : Rule) (p : Progress) → Keeps p → Keeps (marked rule p)
  pub request : (list : List (ℕ × LockMode)) (p : Progress) → first_conflict p.locks setting.who.session list ≡ None → Keeps p → Keeps (record p { locks = with_locks p.locks setting.who.session list })
  pub change : (tables : Transition) (statement : Statement) (p : Progress) (changes : List Change) → Good statement → IsTrue (p.locks setting.who.session (target statement) Write) → Keeps p →
      statement_changes (seen_with setting tables p) statement ≡ Ok changes → Keeps (record p { changes = p.changes ++ changes })
  pub left : (left : Option ℕ) (p : Progress) → Keeps p → Keeps (record p { left = left })

module _ (setting : Setting) (Good : Statement → Type 0) (Keeps : Progress → Type 0) (kept : IsKept setting Good Keeps) where
  request-keeps : {A : Type 0} (K : A → Type 0) (request : List (ℕ × LockMode)) (p : Progress) (next : Progress → Result A Refusal) → Keeps p →
      (Keeps (record p { locks = with_locks p.locks setting.who.session request }) → OkIn K (next (record p { locks = with_locks p.locks setting.who.session request }))) → OkIn K (with_request setting p request next)
  request-keeps {A = A} K request p next h f = by (first_conflict p.locks setting.who.session request) refl
    where
      by : (o : Option ℕ) → first_conflict p.locks setting.who.session request ≡ o →
          OkIn K (elim o as (λ _. Result A Refusal) [ Some table ↦ Err (Locked (name_at setting.base table)) | None ↦ next (record p { locks = with_locks p.locks setting.who.session request }) ])
      by (Some table) e = tt
      by None e = f (kept.request request p e h)

  changes-keep : (tables : Transition) (statement : Statement) (p : Progress) → Good statement → IsTrue (p.locks setting.who.session (target statement) Write) → Keeps p →
      OkIn Keeps (with_effect p (statement_effect setting tables statement p))
  changes-keep tables statement p good asked h = by (statement_effect setting tables statement p) refl
    where
      by : (r : Result (List Change × Option ℕ) Refusal) → statement_effect setting tables statement p ≡ r → OkIn Keeps (with_effect p r)
      by (Ok effect) e =
          kept.left effect.1 (record p { changes = p.changes ++ effect.0 })
          (kept.change tables statement p effect.0 good asked h (effect-changes (seen_with setting tables p) setting.rules statement p.left effect e))
      by (Err refusal) e = tt

  statement-keeps : (tables : Transition) (statement : Statement) (p : Progress) → Good statement → Keeps p → OkIn Keeps (run_statement setting tables statement p)
  statement-keeps tables statement p good h =
      let q : Progress = record p { locks = with_locks p.locks setting.who.session (statement_locks statement) } in
      request-keeps Keeps (statement_locks statement) p (λ q. with_effect q (statement_effect setting tables statement q)) h
      (λ k. changes-keep tables statement q good (target-asked p.locks setting.who.session statement) k)

  abbrev EndIn : Ending → Type 0
  EndIn (ran p) = Keeps p
  EndIn rolled_back = Unit {0}
  EndIn (refused refusal) = Unit {0}

  actions-keep : (tables : Transition) (actions : List Action) (p : Progress) → AreGoodActions Good actions → Keeps p → EndIn (run_actions setting tables actions p)
  actions-keep tables [] p good h = h
  actions-keep tables (action.Rollback ∷ actions) p good h = tt
  actions-keep tables (action.Change statement ∷ actions) p good h =
      by (run_statement setting tables statement p) (statement-keeps tables statement p good.0 h) (λ q k. actions-keep tables actions q good.1 k)
    where
      by : (r : Result Progress Refusal) → OkIn Keeps r → ((q : Progress) → Keeps q → EndIn (run_actions setting tables actions q)) →
          EndIn (elim r as (λ _. Ending) [ Err refusal ↦ refused refusal | Ok q ↦ run_actions setting tables actions q ])
      by (Err refusal) k rest = tt
      by (Ok q) k rest = rest q k

  rows-keep : (p : Progress) (r : Result (List (List Value)) Refusal) → Keeps p → OkIn (λ (t : Bool × Progress). Keeps t.1) (test_rows p r)
  rows-keep p (Ok rows) h = h
  rows-keep p (Err refusal) h = tt

  test-keeps : (tables : Transition) (condition : Option Query) (p : Progress) → Keeps p → OkIn (λ (t : Bool × Progress). Keeps t.1) (test_condition setting tables condition p)
  test-keeps tables None p h = h
  test-keeps tables (Some q) p h =
      let x : Progress = record p { locks = with_locks p.locks setting.who.session (query_locks q) } in
      request-keeps (λ (t : Bool × Progress). Keeps t.1) (query_locks q) p (λ x. test_query (seen_with setting tables x) q x) h
      (λ k.
      with-each (query_work (row_count (seen_with setting tables x)) q) (λ left. test_rows (record x { left = left }) (condition_rows (seen_with setting tables x) q)) (OkIn (λ (t : Bool × Progress). Keeps t.1)) x.left tt
      (λ rest. rows-keep (record x { left = rest }) (condition_rows (seen_with setting tables x) q) (kept.left rest x k)))

  abbrev MeantIn : Considered → Type 0
  MeantIn (was_false p) = Keeps p
  MeantIn (was_true ending) = EndIn ending
  MeantIn (was_refused refusal) = Unit {0}

  consider-keeps : (rule : Rule) (p : Progress) → AreGoodActions Good rule.actions → Keeps p → MeantIn (consider setting rule p)
  consider-keeps rule p good h =
      by (test_condition setting (rule_tables p rule) rule.condition (marked rule p)) (test-keeps (rule_tables p rule) rule.condition (marked rule p) (kept.mark rule p h))
    where
      by : (r : Result (Bool × Progress) Refusal) → OkIn (λ (t : Bool × Progress). Keeps t.1) r →
          MeantIn (elim r as (λ _. Considered) [
            | Err refusal ↦ was_refused refusal
            | Ok tested ↦ elim tested.0 as (λ _. Considered) [ true ↦ was_true (run_actions setting (rule_tables p rule) rule.actions tested.1) | false ↦ was_false tested.1 ]
          ])
      by (Err refusal) k = tt
      by (Ok tested) k =
          elim tested.0 as (λ b. MeantIn (elim b as (λ _. Considered) [ true ↦ was_true (run_actions setting (rule_tables p rule) rule.actions tested.1) | false ↦ was_false tested.1 ])) [
            | true ↦ actions-keep (rule_tables p rule) rule.actions tested.1 good k
            | false ↦ k
          ]

  good-next : AreGoodRules Good setting.rules → (o : Option ℕ) (rule : Rule) → option_and_then (λ id. find (λ (r : Rule). nat_eq r.id id) setting.rules) o ≡ Some rule → AreGoodActions Good rule.actions
  good-next good None rule e = absurd (none-some rule e)
  good-next good (Some id) rule e = good-found Good (λ r. nat_eq r.id id) setting.rules good rule e

  -- what processing comes to behind a consideration, with n left
  abbrev behind : ℕ → (ℕ → Bool) → Progress → Rule → Considered → Processing
  behind n eligible p rule meant =
      elim meant as (λ _. Processing) [
        | was_false q ↦ after_verdict (rule.id, verdict.False) (process n setting eligible q)
        | was_true ending ↦ elim ending as (λ _. Processing) [
          | ran q ↦ after_verdict (rule.id, verdict.True) (process n setting eligible q)
          | rolled_back ↦ ended (ByRule rule.id) ((rule.id, verdict.True) ∷ []) p
          | refused f ↦ ended (ByError rule.id f) ((rule.id, verdict.Error) ∷ []) p
        ]
        | was_refused f ↦ ended (ByError rule.id f) ((rule.id, verdict.Error) ∷ []) p
      ]

  pub process-keeps : AreGoodRules Good setting.rules → (n : ℕ) (eligible : ℕ → Bool) (p : Progress) → Keeps p → Keeps (process n setting eligible p).progress
  process-keeps good zero eligible p h = by (next_rule setting eligible p)
    where
      by : (o : Option Rule) → Keeps (elim o as (λ _. Processing) [ None ↦ ended Done [] p | Some rule ↦ ended ByLimit [] p ]).progress
      by None = h
      by (Some rule) = h
  process-keeps good (suc n) eligible p h = by (next_rule setting eligible p) refl (process-keeps good n eligible)
    where
      goes : (rule : Rule) (meant : Considered) → MeantIn meant → ((q : Progress) → Keeps q → Keeps (process n setting eligible q).progress) → Keeps (behind n eligible p rule meant).progress
      goes rule (was_false q) k rest = rest q k
      goes rule (was_true (ran q)) k rest = rest q k
      goes rule (was_true rolled_back) k rest = h
      goes rule (was_true (refused f)) k rest = h
      goes rule (was_refused f) k rest = h

      by : (o : Option Rule) → next_rule setting eligible p ≡ o → ((q : Progress) → Keeps q → Keeps (process n setting eligible q).progress) → Keeps (elim o as (λ _. Processing) [ None ↦ ended Done [] p | Some rule ↦ behind n eligible p rule (consider setting rule p) ]).progress
      by None e rest = h
      by (Some rule) e rest = goes rule (consider setting rule p) (consider-keeps rule p (good-next good _ rule e) h) rest

-- ---- a step

-- what a full trail leaves as it was holds after a step, where it holds after its reply
pub step-keeps : (Holds : State → Type 0) (tenant : ℕ) (bound : Bound) (state : State) (s : ℕ) (line : List ℕ) → Holds state → Holds (numbered state (reply_to tenant bound state s line)).0 → Holds (step tenant bound state s line).0
step-keeps Holds tenant bound state s line same next =
    elim (is_full_for state s line) as (λ b.
    Holds (elim b as (λ _. State × Answer) [
      | true ↦ (state, record { number = None; reply = reply.No refusal.TrailFull })
      | false ↦ numbered state (reply_to tenant bound state s line)
    ]).0) [ true ↦ same | false ↦ next ]
