-- Processing of renumbered changes, in whatever order the pairs stand: the same outcome and trace, and renumbered changes.
use Rattle.std.proofs.Common.{◌≡◌, ◌∙◌, ℕ, zero, suc, Bool, true, false, ◌&&◌, cond, nat_eq, List, [], ◌∷◌, map, filter, find, Option, Some, None, option_and_then, Result, Ok, Err, refl, sym, ap}
use Rattle.std.proofs.lemmas.List.{map-append, length-map, drop-map}
use Rattle.sb_value.specs.declared.value.Value.{Value}
use Rattle.sb_value.specs.declared.change.Change.{Change}
use Rattle.sb_value.specs.declared.net.Transition.{Transition}
use Rattle.sb_value.specs.declared.lock.LockMode.{LockMode}
use Rattle.sb_value.specs.declared.refusal.Refusal.{Refusal}
use Rattle.sb_value.specs.declared.refusal.Refusal.TheVariants.{Locked}
use Rattle.sb_value.specs.declared.refusal.Verdict.TheVariants as verdict
use Rattle.sb_value.specs.Laws.{PrecedesIsClosure}
use Rattle.sb_value.specs.Locks.{first_conflict, with_locks}
use Rattle.sb_value.specs.NetEffect.{is_triggered, transition_tables}
use Rattle.sb_value.specs.Table.{name_at}
use Rattle.sb_check.specs.Condition.{Query}
use Rattle.sb_check.specs.declared.tree.Statement.{Statement}
use Rattle.sb_check.specs.declared.tree.Action.{Action}
use Rattle.sb_check.specs.declared.tree.Action.TheVariants as action
use Rattle.sb_catalog.specs.declared.rule.Rule.{Rule}
use Rattle.sb_eval.specs.Seen.{Seen, row_count}
use Rattle.sb_eval.specs.Work.{query_work}
use Rattle.sb_eval.specs.Statement.{query_locks, statement_locks, condition_rows}
use Rattle.sb_process.specs.Setting.{Setting, Progress, transition, rule_tables, is_candidate, marked, seen_with, next_rule}
use Rattle.sb_process.specs.Consider.{with_request, with_effect, statement_effect, test_query, run_statement, Ending, ran, rolled_back, refused, run_actions, test_rows, test_condition, Considered, was_false, was_true, was_refused, consider}
use Rattle.sb_process.specs.Process.{Processing, ended, after_verdict, process}
use Rattle.sb_process.specs.declared.Outcome.TheVariants.{Done, ByRule, ByError, ByLimit}
use Rattle.sb_tenant.specs.Alike.{HaveSamePairs}
use Rattle.sb_tenant.specs.AlikeTenants.{Numbering, IsNumbering, renumbered_change, renumbered_entry}
use Rattle.sb_tenant.proofs.Seeing.{map_ok, rows_same, work-both, work_of_query, effect_again, effect_same}
use Rattle.sb_tenant.proofs.Numbered.{tables_after, numbering_after, name_after}
use Rattle.sb_tenant.proofs.Nets.{triggered, same-tables}
use Rattle.sb_tenant.proofs.Pairs.{chosen-same}

module _ (tenant : ℕ) (n : Numbering) where
  abbrev pub renumbered_progress : Progress → Progress
  renumbered_progress p = record p { changes = map (renumbered_change tenant n) p.changes }

  abbrev pub renumbered_ending : Ending → Ending
  renumbered_ending (ran p) = ran (renumbered_progress p)
  renumbered_ending rolled_back = rolled_back
  renumbered_ending (refused e) = refused e

  abbrev pub renumbered_considered : Considered → Considered
  renumbered_considered (was_false p) = was_false (renumbered_progress p)
  renumbered_considered (was_true ending) = was_true (renumbered_ending ending)
  renumbered_considered (was_refused e) = was_refused e

  abbrev pub renumbered_processing : Processing → Processing
  renumbered_processing p = record p { progress = renumbered_progress p.progress }

  abbrev pub renumbered_setting : List (ℕ × ℕ) → Setting → Setting
  renumbered_setting pairs s = record {
    who = record { tenant = tenant; session = s.who.session };
    rules = s.rules;
    pairs = pairs;
    base = map (renumbered_entry n) s.base;
  }

module _ (law : PrecedesIsClosure) (tenant : ℕ) (n : Numbering) (one : Setting) (pairs : List (ℕ × ℕ)) (same : HaveSamePairs pairs one.pairs) (numbering : IsNumbering n one.base) where
  abbrev r : Change → Change
  r = renumbered_change tenant n

  abbrev again : Progress → Progress
  again = renumbered_progress tenant n

  abbrev other : Setting
  other = renumbered_setting tenant n pairs one

  -- ---- the next rule

  since : (p : Progress) (rule : Rule) → transition (again p) rule ≡ map r (transition p rule)
  since p rule = drop-map r (p.marks rule.id) p.changes

  tables-of : (p : Progress) (rule : Rule) → rule_tables (again p) rule ≡ rule_tables p rule
  tables-of p rule =
      (λ i. transition_tables rule.triggers rule.table (since p rule i))
      ∙ same-tables tenant n numbering.rising rule.triggers rule.table (transition p rule)

  candidates : (eligible : ℕ → Bool) (p : Progress) → is_candidate eligible (again p) ≡ is_candidate eligible p
  candidates eligible p = λ i rule. eligible rule.id && hit rule i
    where
      hit : (rule : Rule) → is_triggered rule.triggers rule.table (transition (again p) rule) ≡ is_triggered rule.triggers rule.table (transition p rule)
      hit rule =
          (λ i. is_triggered rule.triggers rule.table (since p rule i))
          ∙ triggered tenant n numbering.rising rule.triggers rule.table (transition p rule)

  next-same : (eligible : ℕ → Bool) (p : Progress) → next_rule other eligible (again p) ≡ next_rule one eligible p
  next-same eligible p = λ i. option_and_then (λ id. find (λ (rule : Rule). nat_eq rule.id id) one.rules) (chosen-same law pairs one.pairs same (ids i) i)
    where
      ids : 𝕀 → List ℕ
      ids i = map (λ rule. rule.id) (filter (candidates eligible p i) one.rules)

  -- ---- what is asked of the locks

  request-same : {A : Type 0} (f : A → A) (request : List (ℕ × LockMode)) (p : Progress) (next next-again : Progress → Result A Refusal) →
      ((q : Progress) → next-again (again q) ≡ map_ok f (next q)) →
      with_request other (again p) request next-again ≡ map_ok f (with_request one p request next)
  request-same {A = A} f request p next next-again h = by (first_conflict p.locks one.who.session request)
    where
      granted : Progress
      granted = record p { locks = with_locks p.locks one.who.session request }

      by : (o : Option ℕ) →
          elim o as (λ _. Result A Refusal) [ Some table ↦ Err (Locked (name_at other.base table)) | None ↦ next-again (again granted) ]
          ≡ map_ok f (elim o as (λ _. Result A Refusal) [ Some table ↦ Err (Locked (name_at one.base table)) | None ↦ next granted ])
      by (Some table) = ap (λ name. Err (Locked name)) (name_after n one.base table)
      by None = h granted

  -- ---- a condition, a statement, actions

  module _ (tables : Transition) where
    abbrev seen : Progress → Seen
    seen p = seen_with one tables p

    abbrev seen-again : Progress → Seen
    seen-again p = seen_with other tables (again p)

    rows : (p : Progress) (q : Query) → condition_rows (seen-again p) q ≡ condition_rows (seen p) q
    rows p q = rows_same tenant n (seen p) (seen-again p) (tables_after tenant n p.changes one.base numbering) refl refl (numbering_after n p.changes one.base numbering) q

    abbrev effect-again : List Change × Option ℕ → List Change × Option ℕ
    effect-again = effect_again tenant n

    effects : (p : Progress) (s : Statement) → statement_effect other tables s (again p) ≡ map_ok effect-again (statement_effect one tables s p)
    effects p s = effect_same tenant n (seen p) (seen-again p) (tables_after tenant n p.changes one.base numbering) refl refl (numbering_after n p.changes one.base numbering) one.rules s p.left

    works : (p : Progress) (q : Query) → query_work (row_count (seen-again p)) q ≡ query_work (row_count (seen p)) q
    works p q = work_of_query tenant n (seen p) (seen-again p) (tables_after tenant n p.changes one.base numbering) refl refl (numbering_after n p.changes one.base numbering) q

    abbrev tested-again : Bool × Progress → Bool × Progress
    tested-again t = (t.0, again t.1)

    tested : (p : Progress) (rows : Result (List (List Value)) Refusal) → test_rows (again p) rows ≡ map_ok tested-again (test_rows p rows)
    tested p (Ok rows) = refl
    tested p (Err e) = refl

    condition-same : (condition : Option Query) (p : Progress) → test_condition other tables condition (again p) ≡ map_ok tested-again (test_condition one tables condition p)
    condition-same None p = refl
    condition-same (Some q) p =
        request-same tested-again (query_locks q) p (λ x. test_query (seen x) q x) (λ x. test_query (seen_with other tables x) q x)
        (λ x.
        work-both tested-again (query_work (row_count (seen x)) q) (query_work (row_count (seen-again x)) q) x.left (λ left. test_rows (record x { left = left }) (condition_rows (seen x) q))
        (λ left. test_rows (record (again x) { left = left }) (condition_rows (seen-again x) q)) (works x q)
        (λ left. (λ i. test_rows (record (again x) { left = left }) (rows x q i)) ∙ tested (record x { left = left }) (condition_rows (seen x) q)))

    changed : (p : Progress) (cs : Result (List Change × Option ℕ) Refusal) → with_effect (again p) (map_ok effect-again cs) ≡ map_ok again (with_effect p cs)
    changed p (Ok effect) = λ i. Ok (record { changes = sym (map-append r p.changes effect.0) i; marks = p.marks; locks = p.locks; left = effect.1 })
    changed p (Err e) = refl

    statement-same : (s : Statement) (p : Progress) → run_statement other tables s (again p) ≡ map_ok again (run_statement one tables s p)
    statement-same s p =
        request-same again (statement_locks s) p (λ x. with_effect x (statement_effect one tables s x)) (λ x. with_effect x (statement_effect other tables s x))
        (λ x. (λ i. with_effect (again x) (effects x s i)) ∙ changed x (statement_effect one tables s x))

    abbrev onward : (Progress → Ending) → Result Progress Refusal → Ending
    onward next (Err e) = refused e
    onward next (Ok p) = next p

    onward-same : (next next-again : Progress → Ending) → ((p : Progress) → next-again (again p) ≡ renumbered_ending tenant n (next p)) →
        (result : Result Progress Refusal) → onward next-again (map_ok again result) ≡ renumbered_ending tenant n (onward next result)
    onward-same next next-again h (Ok p) = h p
    onward-same next next-again h (Err e) = refl

    actions-same : (actions : List Action) (p : Progress) → run_actions other tables actions (again p) ≡ renumbered_ending tenant n (run_actions one tables actions p)
    actions-same [] p = refl
    actions-same (action.Rollback ∷ actions) p = refl
    actions-same (action.Change s ∷ actions) p =
        (λ i. onward (run_actions other tables actions) (statement-same s p i))
        ∙ onward-same (run_actions one tables actions) (run_actions other tables actions) (λ q. actions-same actions q) (run_statement one tables s p)

  -- ---- a rule

  abbrev true-or-not : (Progress → Ending) → Bool × Progress → Considered
  true-or-not next tested = elim tested.0 as (λ _. Considered) [ true ↦ was_true (next tested.1) | false ↦ was_false tested.1 ]

  abbrev after-test : (Progress → Ending) → Result (Bool × Progress) Refusal → Considered
  after-test next (Err e) = was_refused e
  after-test next (Ok tested) = true-or-not next tested

  after-test-same : (next next-again : Progress → Ending) → ((p : Progress) → next-again (again p) ≡ renumbered_ending tenant n (next p)) →
      (result : Result (Bool × Progress) Refusal) →
      after-test next-again (map_ok (λ t. (t.0, again t.1)) result) ≡ renumbered_considered tenant n (after-test next result)
  after-test-same next next-again h (Err e) = refl
  after-test-same next next-again h (Ok (true, p)) = ap was_true (h p)
  after-test-same next next-again h (Ok (false, p)) = refl

  marked-same : (rule : Rule) (p : Progress) → marked rule (again p) ≡ again (marked rule p)
  marked-same rule p = λ i. record {
    changes = map r p.changes;
    marks = λ id. cond (nat_eq id rule.id) (length-map p.changes r i) (p.marks id);
    locks = p.locks;
    left = p.left;
  }

  consider-same : (rule : Rule) (p : Progress) → consider other rule (again p) ≡ renumbered_considered tenant n (consider one rule p)
  consider-same rule p =
      (λ i. let tables = tables-of p rule i in after-test (run_actions other tables rule.actions) (test_condition other tables rule.condition (marked-same rule p i)))
      ∙ (λ i. after-test (run_actions other now rule.actions) (condition-same now rule.condition (marked rule p) i))
      ∙ after-test-same (run_actions one now rule.actions) (run_actions other now rule.actions) (actions-same now rule.actions) (test_condition one now rule.condition (marked rule p))
    where
      now : Transition
      now = rule_tables p rule

  -- ---- rules

  abbrev limited : Progress → Option Rule → Processing
  limited p None = ended Done [] p
  limited p (Some rule) = ended ByLimit [] p

  limited-same : (p : Progress) (next : Option Rule) → limited (again p) next ≡ renumbered_processing tenant n (limited p next)
  limited-same p None = refl
  limited-same p (Some rule) = refl

  abbrev after-considered : ℕ → Progress → (Progress → Processing) → Considered → Processing
  after-considered id p next (was_false q) = after_verdict (id, verdict.False) (next q)
  after-considered id p next (was_true (ran q)) = after_verdict (id, verdict.True) (next q)
  after-considered id p next (was_true rolled_back) = ended (ByRule id) ((id, verdict.True) ∷ []) p
  after-considered id p next (was_true (refused e)) = ended (ByError id e) ((id, verdict.Error) ∷ []) p
  after-considered id p next (was_refused e) = ended (ByError id e) ((id, verdict.Error) ∷ []) p

  after-considered-same : (id : ℕ) (p : Progress) (next next-again : Progress → Processing) → ((q : Progress) → next-again (again q) ≡ renumbered_processing tenant n (next q)) →
      (c : Considered) → after-considered id (again p) next-again (renumbered_considered tenant n c) ≡ renumbered_processing tenant n (after-considered id p next c)
  after-considered-same id p next next-again h (was_false q) = ap (after_verdict (id, verdict.False)) (h q)
  after-considered-same id p next next-again h (was_true (ran q)) = ap (after_verdict (id, verdict.True)) (h q)
  after-considered-same id p next next-again h (was_true rolled_back) = refl
  after-considered-same id p next next-again h (was_true (refused e)) = refl
  after-considered-same id p next next-again h (was_refused e) = refl

  abbrev chosen-next : Setting → Progress → (Progress → Processing) → Option Rule → Processing
  chosen-next setting p next None = ended Done [] p
  chosen-next setting p next (Some rule) = after-considered rule.id p next (consider setting rule p)

  chosen-next-same : (p : Progress) (next next-again : Progress → Processing) → ((q : Progress) → next-again (again q) ≡ renumbered_processing tenant n (next q)) →
      (o : Option Rule) → chosen-next other (again p) next-again o ≡ renumbered_processing tenant n (chosen-next one p next o)
  chosen-next-same p next next-again h None = refl
  chosen-next-same p next next-again h (Some rule) =
      (λ i. after-considered rule.id (again p) next-again (consider-same rule p i))
      ∙ after-considered-same rule.id p next next-again h (consider one rule p)

  pub process-same : (k : ℕ) (eligible : ℕ → Bool) (p : Progress) → process k other eligible (again p) ≡ renumbered_processing tenant n (process k one eligible p)
  process-same zero eligible p = (λ i. limited (again p) (next-same eligible p i)) ∙ limited-same p (next_rule one eligible p)
  process-same (suc k) eligible p =
      (λ i. chosen-next other (again p) (process k other eligible) (next-same eligible p i))
      ∙ chosen-next-same p (process k one eligible) (process k other eligible) (λ q. process-same k eligible q) (next_rule one eligible p)
