-- What each command leaves of proper lists, and so each legal trail.
use Rattle.std.proofs.lemmas.Bool.{not-true}
use Rattle.std.proofs.Common.{◌≡◌, ◌∙◌, ℕ, ◌+◌, Bool, true, false, not, ◌&&◌, ◌==◌, nat_eq, nat_lt, List, [], ◌∷◌, ◌++◌, length, filter, map, Option, Some, None, Result, Ok, Err, refl, sym, ap, subst, eqb-true, true≢false, IsTrue, IsFalse}
use Rattle.std.proofs.lemmas.Option.{none-some}
use Rattle.sb_tenant.specs.declared.bound.Bound.{Bound}
use Rattle.sb_value.specs.declared.change.Change.{Change}
use Rattle.sb_value.specs.declared.lock.LockMode.{LockMode}
use Rattle.sb_value.specs.declared.refusal.Refusal.{Refusal}
use Rattle.sb_value.specs.declared.refusal.Refusal.TheVariants as refusal
use Rattle.sb_value.specs.Locks.{first_conflict, with_locks, released}
use Rattle.sb_value.specs.Table.{Entry, empty_table, name_at, table_at, IsProper}
use Rattle.sb_value.specs.declared.value.ColumnDefinition.{ColumnDefinition}
use Rattle.sb_value.specs.declared.net.Triggers.{Triggers}
use Rattle.sb_check.specs.declared.tree.Action.{Action}
use Rattle.sb_check.specs.declared.tree.Statement.{Statement}
use Rattle.sb_catalog.specs.Definitions.{is_member}
use Rattle.sb_catalog.specs.Rules.{least_free, free_rule, rule_of, is_active}
use Rattle.sb_catalog.specs.Uses.{is_used}
use Rattle.sb_eval.specs.Laws.{ChangesAreProper}
use Rattle.sb_eval.specs.Seen.{no_transition}
use Rattle.sb_eval.specs.Statement.{query_locks, statement_locks}
use Rattle.sb_process.specs.Consider.{statement_effect}
use Rattle.sb_process.specs.declared.Outcome.{Outcome}
use Rattle.sb_process.specs.declared.Outcome.TheVariants.{Done, ByRule, ByError, ByLimit}
use Rattle.sb_process.specs.Process.{process, stands_after}
use Rattle.sb_process.specs.Setting.{Setting, Progress, seen_with}
use Rattle.sb_check.specs.Names.{and_then, required, some_or}
use Rattle.sb_check.specs.RuleParts.{Parts, NewParts, walk_parts, walk_alteration}
use Rattle.sb_check.specs.Resolved.{walk_names}
use Rattle.sb_check.specs.There.{IsStatementThere, ArePartsThere, AreNewPartsThere}
use Rattle.sb_check.specs.Walk.{Schema, table_named, walk_query, walk_statement}
use Rattle.sb_catalog.specs.Definitions.{rules_named, new_pairs, altered_pairs}
use Rattle.sb_catalog.specs.Rules.{has_name, named, rule_named}
use Rattle.sb_catalog.specs.Sets as rulesets
use Rattle.sb_syntax.specs.Text.{command_of}
use Rattle.sb_syntax.specs.Tree as text
use Rattle.sb_syntax.specs.Tree.{Command, RuleText}
use Rattle.sb_tenant.specs.declared.reply.Entry.{Entry as Line}
use Rattle.sb_tenant.specs.declared.reply.Reply.{Reply}
use Rattle.sb_tenant.specs.declared.reply.Reply.TheVariants as reply
use Rattle.sb_tenant.specs.Limits.{is_session}
use Rattle.sb_tenant.specs.Perform.{with_request, change_seen, select_seen, perform_change, stands_as, stays, process_at, perform}
use Rattle.sb_tenant.specs.Resolved.{Resolved, open_session, end_session, begin, commit, rollback, process_rules, process_ruleset, process_rule, create_table, drop_table, create_rule, alter_rule, drop_rule, activate_rule, deactivate_rule, create_ruleset, drop_ruleset, add_rules, del_rules, query, change}
use Rattle.sb_tenant.specs.State.{State, Session, closed, idle, active, session_at, changes_of, with_session, setting_of, progress_of, with_progress, rolled_back, committed}
use Rattle.sb_tenant.specs.Limits.{table_limit}
use Rattle.sb_tenant.specs.Resolved.{defines}
use Rattle.sb_tenant.specs.State.{opening, is_open, has_transaction, another_has_transaction}
use Rattle.sb_tenant.specs.Step.{first_of, refusal_by, session_refusal, outcome_of, reply_to_command, reply_to, step}
use Rattle.sb_tenant.specs.Trail.{after_abort, is_no_memory, IsLegal, after_entry}
use Rattle.sb_tenant.specs.Walk.{outside_rules, unless, walk_lists, walk_new_parts, class_of, walk}
use Rattle.sb_tenant.specs.WellFormed.{HasSoundLocks, StatesAreWellFormed}
use Rattle.sb_tenant.proofs.CatalogLists.{statement-in, actions-in, has-more, sound-more, proper-more, sound-less, rules-less, rules-last, rules-without, rules-active, rules-altered, new-actions-in}
use Rattle.sb_tenant.proofs.Charging.{effect-changes}
use Rattle.sb_tenant.proofs.Keeping.{AreGoodActions, IsKept, process-keeps, step-keeps}
use Rattle.sb_tenant.proofs.ListLaws.{IsIn, IsInOrder, order-kept, from-base, to-base, HasProperTables, proper-put, good-rules, proper-committed}
use Rattle.sb_tenant.proofs.LockLaws.{begins-fit, sound-goes, sound-entry, opening-sound}
use Rattle.sb_tenant.proofs.ReplayLaws.{next_after}
use Rattle.sb_tenant.proofs.Sharing.{each-session}
use Rattle.sb_tenant.proofs.Resolving.{is_edge}
use Rattle.sb_tenant.proofs.SessionLaws.{IsInner, refused, resolved, inner-walk}
use Rattle.sb_tenant.proofs.Targets.{target-asked}

-- no session has changed anything
abbrev pub IsCalm : State → Type 0
IsCalm state = (o : ℕ) → IsTrue (is_session o) → changes_of (session_at state o) ≡ []

-- what a resolved command names is there, and a table goes that no rule and no transaction uses
abbrev pub Fits : State → Resolved → Type 0
Fits state (change statement) = IsIn state.catalog.tables statement
Fits state (create_rule new) = AreGoodActions (IsIn state.catalog.tables) new.parts.3
Fits state (alter_rule new) = (actions : List Action) → new.parts.1 ≡ Some actions → AreGoodActions (IsIn state.catalog.tables) actions
Fits state (drop_table id) = IsFalse (is_used state.catalog.rules id) × IsCalm state
Fits state other = Unit {0}

module _ (laws : ChangesAreProper) (tenant : ℕ) (bound : Bound) (state : State) (h : HasSoundLocks state) (g : HasProperTables state) (s : ℕ) (is : IsTrue (is_session s)) where
  abbrev tables : List Entry
  tables = state.catalog.tables

  abbrev InOrder : Progress → Type 0
  InOrder = IsInOrder laws tenant state h s is g.tables

  kept : IsKept (setting_of tenant state s) (IsIn tables) InOrder
  kept = order-kept laws tenant state h s is g.tables

  begins-order : (left : Option ℕ) → InOrder (progress_of left state s)
  begins-order left = (begins-fit state h s left, to-base laws tenant state h s is g.tables (progress_of left state s) (begins-fit state h s left) (g.lists s is))

  proper-goes : (p : Progress) → InOrder p → HasProperTables (with_progress state s p)
  proper-goes p k = proper-put state g s p.locks state.steps (active p.changes p.marks) (from-base laws tenant state h s is g.tables p k.0 k.1)

  proper-back : HasProperTables (rolled_back state s)
  proper-back = proper-put state g s (released state.locks s) state.steps idle tt

  proper-stands : (finish : State → State) → ((p : Progress) → InOrder p → HasProperTables (finish (with_progress state s p))) →
      (outcome : Outcome) (p : Progress) → InOrder p → HasProperTables (stands_as state s finish (stands_after outcome p))
  proper-stands finish finishes Done p k = finishes p k
  proper-stands finish finishes (ByRule r) p k = proper-back
  proper-stands finish finishes (ByError r refusal) p k = proper-back
  proper-stands finish finishes ByLimit p k = proper-back

  proper-process : (eligible : ℕ → Bool) (finish : State → State) → ((p : Progress) → InOrder p → HasProperTables (finish (with_progress state s p))) → HasProperTables (process_at tenant bound state s eligible finish).0
  proper-process eligible finish finishes =
      let setting = setting_of tenant state s in
      let p = process bound.considerations setting eligible (progress_of bound.work state s) in
      proper-stands finish finishes p.outcome p.progress (process-keeps setting (IsIn tables) InOrder kept g.rules bound.considerations eligible (progress_of bound.work state s) (begins-order bound.work))

  abbrev wanted : List (ℕ × LockMode) → Progress
  wanted request = record (progress_of bound.work state s) { locks = with_locks state.locks s request }

  proper-request : (request : List (ℕ × LockMode)) (next : Progress → State × Reply) → (InOrder (wanted request) → HasProperTables (next (wanted request)).0) → HasProperTables (with_request bound state s request next).0
  proper-request request next f = by (first_conflict state.locks s request) refl
    where
      by : (o : Option ℕ) → first_conflict state.locks s request ≡ o →
          HasProperTables (elim o as (λ _. State × Reply) [ Some table ↦ (state, reply.No (refusal.Locked (name_at state.catalog.tables table))) | None ↦ next (wanted request) ]).0
      by (Some table) e = g
      by None e = f (kept.request request (progress_of bound.work state s) e (begins-order bound.work))

  proper-change : (statement : Statement) → IsIn tables statement → InOrder (wanted (statement_locks statement)) → HasProperTables (perform_change tenant state s statement (wanted (statement_locks statement))).0
  proper-change statement there k = by (statement_effect setting no_transition statement p) refl
    where
      setting : Setting
      setting = setting_of tenant state s

      p : Progress
      p = wanted (statement_locks statement)

      by : (r : Result (List Change × Option ℕ) Refusal) → statement_effect setting no_transition statement p ≡ r → HasProperTables (change_seen state s p r).0
      by (Err e) given = proper-goes p k
      by (Ok effect) given =
          proper-goes (record p { changes = p.changes ++ effect.0 })
          (kept.change no_transition statement p effect.0 there (target-asked state.locks s statement) k (effect-changes (seen_with setting no_transition p) setting.rules statement p.left effect given))

  proper-perform : (r : Resolved) → Fits state r → is_edge r ≡ false → HasProperTables (perform tenant bound state s r).0
  proper-perform open_session fits e = absurd (true≢false e)
  proper-perform end_session fits e = absurd (true≢false e)
  proper-perform begin fits e = proper-put state g s state.locks state.steps (active [] (λ id. 0)) tt
  proper-perform commit fits e =
      proper-process (is_active state.catalog.rules) (λ after. committed after s)
      (λ p k. proper-committed (with_progress state s p) (sound-goes state h s p k.0) (proper-goes p k) s is)
  proper-perform rollback fits e = proper-back
  proper-perform process_rules fits e = proper-process (is_active state.catalog.rules) stays proper-goes
  proper-perform (process_ruleset name) fits e = proper-process (λ id. is_active state.catalog.rules id && is_member state.catalog.rulesets name id) stays proper-goes
  proper-perform (process_rule r) fits e = proper-process (λ id. (id == r) && is_active state.catalog.rules id) stays proper-goes
  proper-perform (create_table name columns) fits e =
      let new : Entry = record { id = least_free (map (λ x. x.id) tables); name = name; table = empty_table columns } in record {
        tables = λ t. sound-more new (tt, tt) tables t (g.tables t);
        rules = good-rules tables (tables ++ new ∷ []) (has-more new tables) state.catalog.rules g.rules;
        lists = λ o io. proper-more new tables (changes_of (session_at state o)) (g.lists o io);
      }
  proper-perform (drop_table id) fits e = record {
    tables = λ t. sound-less id tables t (g.tables t);
    rules = rules-less id tables state.catalog.rules fits.0 g.rules;
    lists = λ o io. subst (IsProper (filter (λ x. not (nat_eq x.id id)) tables)) (sym (fits.1 o io)) tt;
  }
  proper-perform (create_rule new) fits e = record {
    tables = g.tables;
    rules = rules-last (IsIn tables) state.catalog.rules (rule_of (free_rule state.catalog.rules) new.name new.parts) g.rules fits;
    lists = g.lists;
  }
  proper-perform (alter_rule new) fits e = record { tables = g.tables; rules = rules-altered (IsIn tables) state.catalog.rules new.id new.parts g.rules fits; lists = g.lists }
  proper-perform (drop_rule id) fits e = record { tables = g.tables; rules = rules-without (IsIn tables) state.catalog.rules id g.rules; lists = g.lists }
  proper-perform (activate_rule id) fits e = record { tables = g.tables; rules = rules-active (IsIn tables) state.catalog.rules id true g.rules; lists = g.lists }
  proper-perform (deactivate_rule id) fits e = record { tables = g.tables; rules = rules-active (IsIn tables) state.catalog.rules id false g.rules; lists = g.lists }
  proper-perform (query q) fits e = proper-request (query_locks q) (select_seen tenant state s q) (proper-goes (wanted (query_locks q)))
  proper-perform (change statement) fits e = proper-request (statement_locks statement) (perform_change tenant state s statement) (proper-change statement fits)
  proper-perform rulesets fits e = record { tables = g.tables; rules = g.rules; lists = g.lists }

-- ---- a closed session, an abort

proper-closed : (state : State) → HasProperTables state → (s : ℕ) → HasProperTables (with_session (rolled_back state s) s closed)
proper-closed state g s =
    proper-put (rolled_back state s) (proper-put state g s (released state.locks s) state.steps idle tt) s (released state.locks s) state.steps closed tt

proper-steps : (state : State) → HasProperTables state → (steps : ℕ) → HasProperTables (record state { steps = steps })
proper-steps state g steps = record { tables = g.tables; rules = g.rules; lists = g.lists }

-- ---- what a walk finds is there

-- the laws of what a walk finds
pub record TablesAreThere : Type 0 where
  pub statements : (names : Schema) (c : text.Statement) (s : Statement) → walk_statement names c ≡ Ok s → IsStatementThere names.tables s
  pub rules : (names : Schema) (r : RuleText) (parts : Parts) → walk_parts names r ≡ Ok parts → ArePartsThere names.tables r parts
  pub alterations : (names : Schema) (columns : List ColumnDefinition) (triggers : Triggers) (r : text.AlterationText) (parts : NewParts) → walk_alteration names columns triggers r ≡ Ok parts → AreNewPartsThere names.tables r parts

abbrev Gives : State → Result Resolved Refusal → Type 0
Gives state (Ok r) = Fits state r
Gives state (Err e) = Unit {0}

module _ (state : State) where
  gives-required : (b : Bool) (e : Refusal) (next : Result Resolved Refusal) → (b ≡ true → Gives state next) → Gives state (required b e next)
  gives-required true e next f = f refl
  gives-required false e next f = tt

  gives-unless : (o : Option Refusal) (next : Result Resolved Refusal) → Gives state next → Gives state (unless o next)
  gives-unless None next f = f
  gives-unless (Some e) next f = tt

  gives-then : {A : Type 0} (r : Result A Refusal) (next : A → Result Resolved Refusal) → ((a : A) → r ≡ Ok a → Gives state (next a)) → Gives state (and_then r next)
  gives-then (Ok a) next f = f a refl
  gives-then (Err e) next f = tt

  gives-walk : (there : TablesAreThere) → (c : Command) → (class_of c ≡ defines → IsCalm state) → Gives state (walk state.catalog c)
  gives-walk there text.open_session calm = tt
  gives-walk there text.end_session calm = tt
  gives-walk there text.begin calm = tt
  gives-walk there text.commit calm = tt
  gives-walk there text.rollback calm = tt
  gives-walk there text.process_rules calm = tt
  gives-walk there (text.process_ruleset name) calm = gives-required _ refusal.NoRuleset (Ok (process_ruleset name)) (λ e. tt)
  gives-walk there (text.process_rule name) calm = gives-then (rule_named state.catalog.rules name) (λ id. Ok (process_rule id)) (λ id e. tt)
  gives-walk there (text.create_table name columns) calm =
      gives-then (walk_names (outside_rules state.catalog) (text.create_table name columns)) (λ x. required (nat_lt (length state.catalog.tables) table_limit) refusal.TooManyTables (Ok (create_table name columns)))
      (λ x e. gives-required (nat_lt (length state.catalog.tables) table_limit) refusal.TooManyTables (Ok (create_table name columns)) (λ p. tt))
  gives-walk there (text.drop_table name) calm =
      gives-then (table_named (outside_rules state.catalog) name) (λ x. required (not (is_used state.catalog.rules x.id)) refusal.TableInUse (Ok (drop_table x.id)))
      (λ x e. gives-required (not (is_used state.catalog.rules x.id)) refusal.TableInUse (Ok (drop_table x.id)) (λ p. (not-true (is_used state.catalog.rules x.id) p, calm refl)))
  gives-walk there (text.create_rule r) calm =
      gives-required (not (has_name state.catalog.rules r.name)) refusal.RuleExists (and_then (walk_parts (outside_rules state.catalog) r) (walk_lists state.catalog r)) (λ p.
      gives-then (walk_parts (outside_rules state.catalog) r) (walk_lists state.catalog r) (λ parts e.
      gives-then (new_pairs state.catalog.rules state.catalog.pairs r.precedes r.follows) (λ pairs. Ok (create_rule (record { name = r.name; parts = parts; pairs = pairs })))
      (λ pairs q. actions-in state.catalog.tables parts.3 (there.rules (outside_rules state.catalog) r parts e).actions)))
  gives-walk there (text.alter_rule r) calm =
      gives-then (some_or refusal.NoRule (named state.catalog.rules r.name)) (walk_new_parts state.catalog r) (λ rule p.
      gives-then (walk_alteration (outside_rules state.catalog) (table_at state.catalog.tables rule.table).columns rule.triggers r)
      (λ parts. and_then (altered_pairs state.catalog.rules state.catalog.pairs rule.id r) (λ pairs. Ok (alter_rule (record { id = rule.id; parts = parts; pairs = pairs })))) (λ parts e.
      gives-then (altered_pairs state.catalog.rules state.catalog.pairs rule.id r) (λ pairs. Ok (alter_rule (record { id = rule.id; parts = parts; pairs = pairs })))
      (λ pairs q. new-actions-in state.catalog.tables r.actions parts.1 (there.alterations (outside_rules state.catalog) (table_at state.catalog.tables rule.table).columns rule.triggers r parts e).actions)))
  gives-walk there (text.drop_rule name) calm = gives-then (rule_named state.catalog.rules name) (λ id. Ok (drop_rule id)) (λ id e. tt)
  gives-walk there (text.activate_rule name) calm = gives-then (rule_named state.catalog.rules name) (λ id. Ok (activate_rule id)) (λ id e. tt)
  gives-walk there (text.deactivate_rule name) calm = gives-then (rule_named state.catalog.rules name) (λ id. Ok (deactivate_rule id)) (λ id e. tt)
  gives-walk there (text.create_ruleset name) calm = gives-unless (rulesets.create_refusal state.catalog.rulesets name) (Ok (create_ruleset name)) tt
  gives-walk there (text.drop_ruleset name) calm = gives-required _ refusal.NoRuleset (Ok (drop_ruleset name)) (λ e. tt)
  gives-walk there (text.add_rules name rules) calm =
      gives-required (rulesets.has_name state.catalog.rulesets name) refusal.NoRuleset (and_then (rules_named state.catalog.rules rules) (λ ids. Ok (add_rules name ids)))
      (λ e. gives-then (rules_named state.catalog.rules rules) (λ ids. Ok (add_rules name ids)) (λ ids q. tt))
  gives-walk there (text.del_rules name rules) calm =
      gives-required (rulesets.has_name state.catalog.rulesets name) refusal.NoRuleset (and_then (rules_named state.catalog.rules rules) (λ ids. Ok (del_rules name ids)))
      (λ e. gives-then (rules_named state.catalog.rules rules) (λ ids. Ok (del_rules name ids)) (λ ids q. tt))
  gives-walk there (text.query q) calm = gives-then (walk_query (outside_rules state.catalog) q []) (λ w. Ok (query w.0)) (λ w e. tt)
  gives-walk there (text.change c) calm =
      gives-then (walk_statement (outside_rules state.catalog) c) (λ x. Ok (change x)) (λ x e. statement-in state.catalog.tables x (there.statements (outside_rules state.catalog) c x e))

-- ---- a catalog changes while no transaction is open

no-changes : (session : Session) → has_transaction session ≡ false → changes_of session ≡ []
no-changes closed e = refl
no-changes idle e = refl
no-changes (active changes marks) e = absurd (true≢false e)

calm-of : (state : State) (s : ℕ) → session_refusal defines state s ≡ None → IsCalm state
calm-of state s e o io = by (nat_eq o s) refl
  where
    split : (opened own another : Bool) → refusal_by defines opened own another ≡ None → (own ≡ false) × (another ≡ false)
    split true false false p = (refl, refl)
    split true false true p = absurd (none-some refusal.Busy (sym p))
    split true true another p = absurd (none-some refusal.InTransaction (sym p))
    split false own another p = absurd (none-some refusal.NotOpen (sym p))

    found : (has_transaction (session_at state s) ≡ false) × (another_has_transaction state s ≡ false)
    found = split (is_open (session_at state s)) (has_transaction (session_at state s)) (another_has_transaction state s) e

    by : (b : Bool) → nat_eq o s ≡ b → changes_of (session_at state o) ≡ []
    by true p = no-changes (session_at state o) (ap (λ n. has_transaction (session_at state n)) (eqb-true o s p) ∙ found.0)
    by false p =
        no-changes (session_at state o)
        (ap (λ b. not b && has_transaction (session_at state o)) (sym p) ∙ each-session (λ x. not (nat_eq x s) && has_transaction (session_at state x)) o io found.1)

-- ---- steps and trails

module _ (laws : ChangesAreProper) (there : TablesAreThere) (tenant : ℕ) (bound : Bound) (state : State) (h : HasSoundLocks state) (g : HasProperTables state) (s : ℕ) (is : IsTrue (is_session s)) where
  proper-outcome : (r : Option Refusal) (w : Result Resolved Refusal) → IsInner w → (r ≡ None → Gives state w) → HasProperTables (outcome_of tenant bound state s r w).0
  proper-outcome (Some r) w k f = g
  proper-outcome None w (refused e) f = g
  proper-outcome None w (resolved r k) f = proper-perform laws tenant bound state h g s is r (f refl) k

  proper-opens : (b : Bool) → HasProperTables (outcome_of tenant bound state s (first_of b refusal.AlreadyOpen None) (Ok open_session)).0
  proper-opens true = g
  proper-opens false = proper-put state g s state.locks state.steps idle tt

  proper-ends : (b : Bool) → HasProperTables (outcome_of tenant bound state s (first_of b refusal.NotOpen None) (Ok end_session)).0
  proper-ends true = g
  proper-ends false = proper-closed state g s

  proper-command : (c : Command) → HasProperTables (reply_to_command tenant bound state s c).0
  proper-command text.open_session = proper-opens (is_open (session_at state s))
  proper-command text.end_session = proper-ends (not (is_open (session_at state s)))
  proper-command c =
      proper-outcome (session_refusal (class_of c) state s) (walk state.catalog c) (inner-walk state.catalog c refl)
      (λ none. gives-walk state there c (λ e. calm-of state s ((λ i. session_refusal (sym e i) state s) ∙ none)))

  proper-line : (line : List ℕ) → HasProperTables (reply_to tenant bound state s line).0
  proper-line line = by (command_of line)
    where
      by : (o : Option Command) → HasProperTables (elim o as (λ _. State × Reply) [ None ↦ (state, reply.No refusal.Syntax) | Some command ↦ reply_to_command tenant bound state s command ]).0
      by None = g
      by (Some command) = proper-command command

  proper-step : (line : List ℕ) → HasProperTables (step tenant bound state s line).0
  proper-step line = step-keeps HasProperTables tenant bound state s line g (proper-steps (reply_to tenant bound state s line).0 (proper-line line) (state.steps + 1))

  proper-abort : HasProperTables (after_abort state s)
  proper-abort = by (has_transaction (session_at state s))
    where
      by : (b : Bool) → HasProperTables (record (elim b as (λ _. State) [ true ↦ rolled_back state s | false ↦ state ]) { steps = state.steps + 1 })
      by true = proper-steps (rolled_back state s) (proper-put state g s (released state.locks s) state.steps idle tt) (state.steps + 1)
      by false = proper-steps state g (state.steps + 1)

module _ (laws : ChangesAreProper) (there : TablesAreThere) (tenant : ℕ) (bound : Bound) where
  proper-entry : (state : State) (entry : Line) → IsTrue (is_session entry.session) → HasSoundLocks state → HasProperTables state → HasProperTables (after_entry tenant bound state entry)
  proper-entry state entry is h g = by (is_no_memory entry.reply)
    where
      by : (b : Bool) → HasProperTables (elim b as (λ _. State) [ true ↦ after_abort state entry.session | false ↦ (step tenant bound state entry.session entry.line).0 ])
      by true = proper-abort laws there tenant bound state h g entry.session is
      by false = proper-step laws there tenant bound state h g entry.session is entry.line

  proper-legal : (before : State) (entries : List Line) (after : State) → IsLegal tenant bound before entries after → HasSoundLocks before → HasProperTables before → HasSoundLocks after × HasProperTables after
  proper-legal before [] after p h g = (subst HasSoundLocks (sym p) h, subst HasProperTables (sym p) g)
  proper-legal before (entry ∷ entries) after (mid, next, p) h g =
      let same = sym (next_after tenant bound before entry mid next) in
      proper-legal mid entries after p (subst HasSoundLocks same (sound-entry tenant bound before entry h)) (subst HasProperTables same (proper-entry before entry next.0 h g))

  pub states_are_well_formed : StatesAreWellFormed tenant bound
  states_are_well_formed trail state p =
      let whole = proper-legal opening trail state p opening-sound (record { tables = λ t. (tt, tt); rules = tt; lists = λ s is. tt }) in
      (whole.0, λ s is. to-base laws tenant state whole.0 s is whole.1.tables (progress_of None state s) (begins-fit state whole.0 s None) (whole.1.lists s is))
