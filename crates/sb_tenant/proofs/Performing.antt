-- What each command does to a state whose tuples are numbered otherwise: the same reply, and a state that is numbered so.
use Rattle.std.proofs.Common.{◌≡◌, ◌∙◌, ℕ, Bool, true, false, ◌&&◌, nat_eq, List, [], ◌++◌, map, Option, Some, None, Result, Ok, Err, refl, sym, ap, subst, IsTrue}
use Rattle.std.proofs.lemmas.List.{map-append, length-map}
use Rattle.sb_tenant.specs.declared.bound.Bound.{Bound}
use Rattle.sb_value.specs.declared.change.Change.{Change}
use Rattle.sb_value.specs.declared.lock.LockMode.{LockMode}
use Rattle.sb_value.specs.declared.refusal.Refusal.{Refusal}
use Rattle.sb_value.specs.declared.refusal.Refusal.TheVariants as refusal
use Rattle.sb_value.specs.declared.refusal.Verdict.{Verdict}
use Rattle.sb_value.specs.Laws.{PrecedesIsClosure}
use Rattle.sb_value.specs.Locks.{first_conflict, with_locks}
use Rattle.sb_value.specs.Table.{name_at, after_all}
use Rattle.sb_check.specs.Condition.{Query}
use Rattle.sb_check.specs.declared.tree.Statement.{Statement}
use Rattle.sb_catalog.specs.Definitions.{is_member}
use Rattle.sb_catalog.specs.Rules.{IsLeastFree, least_free, is_active}
use Rattle.sb_eval.specs.Seen.{no_transition}
use Rattle.sb_eval.specs.Statement.{query_locks, statement_locks}
use Rattle.sb_catalog.specs.declared.rule.Rule.{Rule}
use Rattle.sb_process.specs.Consider.{effect_seen, statement_effect}
use Rattle.sb_process.specs.declared.Outcome.{Outcome}
use Rattle.sb_process.specs.declared.Outcome.TheVariants.{Done, ByRule, ByError, ByLimit}
use Rattle.sb_process.specs.Setting.{Progress, tables_seen, seen_with}
use Rattle.sb_process.specs.Process.{Processing, stands_after, process}
use Rattle.sb_tenant.specs.declared.reply.Reply.{Reply}
use Rattle.sb_tenant.specs.declared.reply.Reply.TheVariants as reply
use Rattle.sb_tenant.specs.Limits.{is_session}
use Rattle.sb_tenant.specs.State.{State, Session, closed, idle, active, Catalog, session_at, has_transaction, tables_without, setting_of, progress_of, with_progress, rolled_back, committed}
use Rattle.sb_tenant.specs.Catalog.{with_table, without_table, with_rule, with_altered, without_rule, with_active, with_ruleset, without_ruleset, with_members, without_members}
use Rattle.sb_tenant.specs.Resolved.{Resolved, open_session, end_session, begin, commit, rollback, process_rules, process_ruleset, process_rule, create_table, drop_table, create_rule, alter_rule, drop_rule, activate_rule, deactivate_rule, create_ruleset, drop_ruleset, add_rules, del_rules, query, change}
use Rattle.sb_tenant.specs.Perform.{reply_rows, select_seen, change_seen, with_request, perform_change, named, reply_of, stands_as, after_processing, process_at, stays, perform}
use Rattle.sb_tenant.specs.Alike.{HaveSamePairs}
use Rattle.sb_tenant.specs.AlikeTenants.{Numbering, IsNumbering, renumbered_change, renumbered_entry}
use Rattle.sb_tenant.proofs.Numbered.{tables_after, numbering_after, name_after}
use Rattle.sb_tenant.proofs.Seeing.{map_ok, select_within_same, effect_again, effect_same}
use Rattle.sb_tenant.proofs.Pairs.{append-same, without-same as pairs-without-same}
use Rattle.sb_tenant.proofs.AlikeProcessing.{renumbered_progress, renumbered_processing, process-same}
use Rattle.sb_tenant.proofs.Commands.{IsSame, is_same, is_altered, Fits}
use Rattle.sb_tenant.proofs.AlikeDefining.{created-tables, created-numbered, numbered_without, dropped-tables, dropped-numbered}
use Rattle.sb_tenant.proofs.States.{without-transaction, IsMade, put, back, with-catalog, without-same, without-numbered, setting-same, progress-same, goes-on, committed-same}

-- the same reply, and a state with some other numbers
abbrev pub IsAnswered : ℕ → State × Reply → State × Reply → Type 0
IsAnswered tenant one other = (m : Numbering) × IsMade tenant m one.0 other.0 × (other.1 ≡ one.1)

-- no session has a transaction
abbrev pub IsCalm : State → Type 0
IsCalm state = (o : ℕ) → IsTrue (is_session o) → has_transaction (session_at state o) ≡ false

-- a state with other numbers, with these pairs, sessions and steps
abbrev pub remade : Numbering → State → List (ℕ × ℕ) → (ℕ → Session) → ℕ → State
remade n one pairs sessions steps = record {
  catalog = record { tables = map (renumbered_entry n) one.catalog.tables; rules = one.catalog.rules; rulesets = one.catalog.rulesets; pairs = pairs };
  locks = one.locks;
  sessions = sessions;
  steps = steps;
}

module _ (law : PrecedesIsClosure) (first tenant : ℕ) (bound : Bound) (n : Numbering) (one : State) (pairs : List (ℕ × ℕ)) (sess : ℕ → Session) (steps : ℕ) (made : IsMade tenant n one (remade n one pairs sess steps)) (s : ℕ) (is : IsTrue (is_session s)) where
  abbrev other : State
  other = remade n one pairs sess steps

  abbrev r : Change → Change
  r = renumbered_change tenant n

  abbrev again : Progress → Progress
  again = renumbered_progress tenant n

  -- ---- assertion points

  module _ (eligible : ℕ → Bool) (finish : State → State) (finishes : (p : Progress) → IsMade tenant n (finish (with_progress one s p)) (finish (with_progress other s (again p)))) where
    processing : process bound.considerations (setting_of tenant other s) eligible (progress_of bound.work other s) ≡ renumbered_processing tenant n (process bound.considerations (setting_of first one s) eligible (progress_of bound.work one s))
    processing =
        (λ i. process bound.considerations (setting-same tenant n one other made first s i) eligible (progress-same tenant n one other made bound.work s is i))
        ∙ process-same law tenant n (setting_of first one s) pairs made.catalog.pairs (without-numbered tenant n one other made s) bound.considerations eligible (progress_of bound.work one s)

    stands : (outcome : Outcome) (p : Progress) → IsMade tenant n (stands_as one s finish (stands_after outcome p)) (stands_as other s finish (stands_after outcome (again p)))
    stands Done p = finishes p
    stands (ByRule rule) p = back tenant n one other made s
    stands (ByError rule e) p = back tenant n one other made s
    stands ByLimit p = back tenant n one other made s

    replies : (outcome : Outcome) (trace : List (ℕ × Verdict)) → reply_of other.catalog outcome (named other.catalog trace) ≡ reply_of one.catalog outcome (named one.catalog trace)
    replies Done trace = refl
    replies (ByRule rule) trace = refl
    replies (ByError rule e) trace = refl
    replies ByLimit trace = refl

    process-at-same : IsAnswered tenant (process_at first bound one s eligible finish) (process_at tenant bound other s eligible finish)
    process-at-same =
        subst (λ q. IsAnswered tenant (process_at first bound one s eligible finish) (after_processing other s finish q)) (sym processing)
        (n, stands p.outcome p.progress, replies p.outcome p.trace)
      where
        p : Processing
        p = process bound.considerations (setting_of first one s) eligible (progress_of bound.work one s)

  -- ---- statements

  request-same : (request : List (ℕ × LockMode)) (next next-again : Progress → State × Reply) → ((p : Progress) → IsAnswered tenant (next p) (next-again (again p))) →
      IsAnswered tenant (with_request bound one s request next) (with_request bound other s request next-again)
  request-same request next next-again h = by (first_conflict one.locks s request)
    where
      granted : Progress → Progress
      granted p = record p { locks = with_locks one.locks s request }

      by : (o : Option ℕ) → IsAnswered tenant
          (elim o as (λ _. State × Reply) [ Some table ↦ (one, reply.No (refusal.Locked (name_at one.catalog.tables table))) | None ↦ next (record (progress_of bound.work one s) { locks = with_locks one.locks s request }) ])
          (elim o as (λ _. State × Reply) [ Some table ↦ (other, reply.No (refusal.Locked (name_at other.catalog.tables table))) | None ↦ next-again (record (progress_of bound.work other s) { locks = with_locks one.locks s request }) ])
      by (Some table) = (n, made, ap (λ name. reply.No (refusal.Locked name)) (name_after n one.catalog.tables table))
      by None =
          subst (λ p. IsAnswered tenant (next (granted (progress_of bound.work one s))) (next-again (granted p))) (sym (progress-same tenant n one other made bound.work s is))
          (h (granted (progress_of bound.work one s)))

  seen : (p : Progress) → tables_seen (setting_of tenant other s) (again p) ≡ map (renumbered_entry n) (tables_seen (setting_of first one s) p)
  seen p =
      (λ i. after_all (map r p.changes) (without-same tenant n one other made s i))
      ∙ tables_after tenant n p.changes (tables_without one s) (without-numbered tenant n one other made s)

  seen-numbered : (p : Progress) → IsNumbering n (tables_seen (setting_of first one s) p)
  seen-numbered p = numbering_after n p.changes (tables_without one s) (without-numbered tenant n one other made s)

  selected : (q : Query) (p : Progress) → IsAnswered tenant (select_seen first one s q p) (select_seen tenant other s q (again p))
  selected q p = (
    n,
    goes-on tenant n one other made s p,
    ap reply_rows (select_within_same tenant n (seen_with (setting_of first one s) no_transition p) (seen_with (setting_of tenant other s) no_transition (again p)) (seen p) refl refl (seen-numbered p) q p.left),
  )

  changed : (p : Progress) (c : Result (List Change × Option ℕ) Refusal) → IsAnswered tenant (change_seen one s p c) (change_seen other s (again p) (map_ok (effect_again tenant n) c))
  changed p (Err e) = (n, goes-on tenant n one other made s p, refl)
  changed p (Ok effect) = (
    n,
    put tenant n one other made s (active (p.changes ++ effect.0) p.marks) (active (map r p.changes ++ map r effect.0) p.marks) p.locks p.locks (λ i. active (sym (map-append r p.changes effect.0) i) p.marks) refl,
    λ i. reply.Count (length-map effect.0 r i),
  )

  changes : (statement : Statement) (p : Progress) → IsAnswered tenant (perform_change first one s statement p) (perform_change tenant other s statement (again p))
  changes statement p =
      subst (λ c. IsAnswered tenant (perform_change first one s statement p) (change_seen other s (again p) c)) (sym same)
      (changed p (statement_effect (setting_of first one s) no_transition statement p))
    where
      same : statement_effect (setting_of tenant other s) no_transition statement (again p) ≡ map_ok (effect_again tenant n) (statement_effect (setting_of first one s) no_transition statement p)
      same = ap (λ (rules : List Rule). effect_seen (seen_with (setting_of tenant other s) no_transition (again p)) rules statement p.left) made.catalog.rules ∙ effect_same tenant n (seen_with (setting_of first one s) no_transition p) (seen_with (setting_of tenant other s) no_transition (again p)) (seen p) refl refl (seen-numbered p) one.catalog.rules statement p.left

  -- ---- definitions

  -- the numbers stay
  kept : (a b : Catalog) → IsNumbering n a.tables → b.tables ≡ map (renumbered_entry n) a.tables → b.rules ≡ a.rules → b.rulesets ≡ a.rulesets → HaveSamePairs b.pairs a.pairs →
      IsAnswered tenant (record one { catalog = a }, reply.Ok) (record other { catalog = b }, reply.Ok)
  kept a b numbering tables rules rulesets same = (n, with-catalog tenant n one other made n a b numbering tables rules rulesets same (λ o io. refl), refl)

  module _ (free : (used : List ℕ) → IsLeastFree used (least_free used)) where
    pub perform-itself : (c : Resolved) → Fits (IsCalm one) c → IsAnswered tenant (perform first bound one s c) (perform tenant bound other s c)
    perform-itself open_session f = (n, put tenant n one other made s idle idle one.locks one.locks refl refl, refl)
    perform-itself end_session f = (n, put tenant n (rolled_back one s) (rolled_back other s) (back tenant n one other made s) s closed closed (rolled_back one s).locks (rolled_back other s).locks refl refl, refl)
    perform-itself begin f = (n, put tenant n one other made s (active [] (λ id. 0)) (active [] (λ id. 0)) one.locks one.locks refl refl, refl)
    perform-itself commit f =
        process-at-same (is_active one.catalog.rules) (λ after. committed after s)
        (λ p. committed-same tenant n (with_progress one s p) (with_progress other s (again p)) (goes-on tenant n one other made s p) s is)
    perform-itself rollback f = (n, back tenant n one other made s, refl)
    perform-itself process_rules f = process-at-same (is_active one.catalog.rules) stays (goes-on tenant n one other made s)
    perform-itself (process_ruleset name) f = process-at-same (λ id. is_active one.catalog.rules id && is_member one.catalog.rulesets name id) stays (goes-on tenant n one other made s)
    perform-itself (process_rule rule) f = process-at-same (λ id. nat_eq id rule && is_active one.catalog.rules id) stays (goes-on tenant n one other made s)
    perform-itself (create_table name columns) f =
        kept (with_table one.catalog name columns) (with_table other.catalog name columns) (created-numbered free n one.catalog.tables made.catalog.numbering_is name columns)
        (created-tables free n one.catalog.tables made.catalog.numbering_is name columns) refl refl made.catalog.pairs
    perform-itself (drop_table id) f = (
      numbered_without id n,
      with-catalog tenant n one other made (numbered_without id n) (without_table one.catalog id) (without_table other.catalog id) (dropped-numbered n id one.catalog.tables made.catalog.numbering_is)
          (dropped-tables n id one.catalog.tables) refl refl made.catalog.pairs (λ o io. without-transaction tenant n (numbered_without id n) (session_at one o) (f o io)),
      refl,
    )
    perform-itself (create_rule new) f =
        kept (with_rule one.catalog new) (with_rule other.catalog new) made.catalog.numbering_is refl refl refl (append-same pairs one.catalog.pairs made.catalog.pairs new.pairs)
    perform-itself (alter_rule new) f = kept (with_altered one.catalog new) (with_altered other.catalog new) made.catalog.numbering_is refl refl refl (λ a b. refl)
    perform-itself (drop_rule id) f = kept (without_rule one.catalog id) (without_rule other.catalog id) made.catalog.numbering_is refl refl refl (pairs-without-same id pairs one.catalog.pairs made.catalog.pairs)
    perform-itself (activate_rule id) f = kept (with_active one.catalog id true) (with_active other.catalog id true) made.catalog.numbering_is refl refl refl made.catalog.pairs
    perform-itself (deactivate_rule id) f = kept (with_active one.catalog id false) (with_active other.catalog id false) made.catalog.numbering_is refl refl refl made.catalog.pairs
    perform-itself (create_ruleset name) f = kept (with_ruleset one.catalog name) (with_ruleset other.catalog name) made.catalog.numbering_is refl refl refl made.catalog.pairs
    perform-itself (drop_ruleset name) f = kept (without_ruleset one.catalog name) (without_ruleset other.catalog name) made.catalog.numbering_is refl refl refl made.catalog.pairs
    perform-itself (add_rules name ids) f = kept (with_members one.catalog name ids) (with_members other.catalog name ids) made.catalog.numbering_is refl refl refl made.catalog.pairs
    perform-itself (del_rules name ids) f = kept (without_members one.catalog name ids) (without_members other.catalog name ids) made.catalog.numbering_is refl refl refl made.catalog.pairs
    perform-itself (query q) f = request-same (query_locks q) (select_seen first one s q) (select_seen tenant other s q) (selected q)
    perform-itself (change statement) f = request-same (statement_locks statement) (perform_change first one s statement) (perform_change tenant other s statement) (changes statement)

    pub perform-same : (d c : Resolved) → IsSame d c → Fits (IsCalm one) c → IsAnswered tenant (perform first bound one s c) (perform tenant bound other s d)
    perform-same _ c is_same f = perform-itself c f
    perform-same _ _ (is_altered {id = id} {parts = parts} {ps = ps} {qs = qs} h) f =
        kept (with_altered one.catalog (record { id = id; parts = parts; pairs = qs })) (with_altered other.catalog (record { id = id; parts = parts; pairs = ps })) made.catalog.numbering_is refl refl refl h
