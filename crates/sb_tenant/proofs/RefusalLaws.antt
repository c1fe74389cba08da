-- A refused line leaves the state, but for the locks of its statement.
use Rattle.std.proofs.Common.{◌≡◌, ◌∙◌, sym, ap, refl, ◌⊎◌, inl, inr, ℕ, ◌+◌, Bool, true, false, not, cond, ◌&&◌, ◌==◌, List, [], length, Option, Some, None, Result, Ok, Err, eqb-true}
use Rattle.std.proofs.lemmas.Bool.{true≢false, false≢true}
use Rattle.std.specs.Prelude.{if◌then◌else◌, nat_lt, option_and_then}
use Rattle.sb_tenant.specs.declared.bound.Bound.{Bound}
use Rattle.sb_value.specs.declared.change.Change.{Change}
use Rattle.sb_value.specs.declared.lock.LockMode.{LockMode}
use Rattle.sb_value.specs.declared.refusal.Refusal.{Refusal}
use Rattle.sb_value.specs.declared.refusal.Refusal.TheVariants as refusal
use Rattle.sb_value.specs.declared.refusal.Verdict.{Verdict}
use Rattle.sb_value.specs.Locks.{first_conflict, with_locks}
use Rattle.sb_value.specs.Table.{name_at}
use Rattle.sb_syntax.specs.Text.{command_of}
use Rattle.sb_syntax.specs.Tree as text
use Rattle.sb_syntax.specs.Tree.{Command}
use Rattle.sb_plan.specs.Cost.{query_cost}
use Rattle.sb_plan.specs.Meaning.{rows_of}
use Rattle.sb_plan.specs.Seen.{row_count, rows_in}
use Rattle.sb_eval.specs.Seen.{no_transition}
use Rattle.sb_value.specs.declared.value.Value.{Value}
use Rattle.sb_eval.specs.Statement.{changes_by, cost_limit, or_overflow, query_locks, row_limit, rows_after, statement_cost, statement_locks, within_cost, within_rows}
use Rattle.sb_process.specs.Process.{process}
use Rattle.sb_process.specs.Consider.{statement_effect, select_within}
use Rattle.sb_process.specs.Setting.{Progress, seen_with}
use Rattle.sb_tenant.proofs.Charging.{effect-refused, rows-refused-within}
use Rattle.sb_process.specs.declared.Outcome.{Outcome}
use Rattle.sb_process.specs.declared.Outcome.TheVariants.{Done, ByRule, ByError, ByLimit}
use Rattle.sb_catalog.specs.Definitions.{is_member}
use Rattle.sb_catalog.specs.Rules.{is_active}
use Rattle.sb_tenant.specs.declared.reply.Answer.{Answer}
use Rattle.sb_tenant.specs.declared.reply.Reply.{Reply}
use Rattle.sb_tenant.specs.declared.reply.Reply.TheVariants as reply
use Rattle.sb_tenant.specs.State.{State, Catalog, Session, closed, idle, active, changes_of, committed, has_transaction, is_open, marks_of, progress_of, session_at, setting_of, with_progress}
use Rattle.sb_tenant.specs.Resolved.{Resolved, Class, defines, works, commit, process_rules, process_ruleset, process_rule, query, change}
use Rattle.sb_tenant.specs.Walk.{class_of, walk}
use Rattle.sb_tenant.specs.Perform.{change_seen, named, perform, perform_change, process_at, reply_of, reply_rows, select_seen, stays, with_request}
use Rattle.sb_tenant.specs.Step.{first_of, is_full_for, numbered, outcome_of, reply_to, reply_to_command, session_refusal, step}
use Rattle.sb_tenant.proofs.Resolving.{is_locking, is_statement, IsOf, refused, resolved, kind-walk}
use Rattle.sb_tenant.specs.RefusalLaws.{ChangesNothing, RefusalsTakeLocksAtMost, RefusedDefinitionsChangeNothing, ComesBehindLocks, TakesLocks, request_in, request_of}

-- ---- other commands ask for no locks

asks-none : (r : Resolved) → is_locking r ≡ false → request_of (Ok r) ≡ None
asks-none (query q) h = absurd (true≢false h)
asks-none (change c) h = absurd (true≢false h)
asks-none other h = refl

none-walk : (catalog : Catalog) (c : Command) → is_statement c ≡ false → request_of (walk catalog c) ≡ None
none-walk catalog c h = by (walk catalog c) (kind-walk catalog c)
  where
    by : (w : Result Resolved Refusal) → IsOf c w → request_of w ≡ None
    by w (refused e) = refl
    by w (resolved r edge locking) = asks-none r (locking ∙ h)

no-definition : (c : Command) → class_of c ≡ defines → is_statement c ≡ false
no-definition (text.query q) h = absurd (let e = h in cc)
no-definition (text.change c) h = absurd (let e = h in cc)
no-definition other h = refl

-- ---- what evaluation refuses

behind-rows : {A : Type 0} (a : A) (b : Bool) (e : Refusal) → (if b then Err refusal.TooManyRows else Ok a) ≡ Err e → ComesBehindLocks e
behind-rows a true e h = inr (inr (let x = h in cc))
behind-rows a false e h = absurd (let x = h in cc)

behind-cost : {A : Type 0} (count : A → ℕ) (given : Option A) (b : Bool) (e : Refusal) →
    within_rows count (if b then Err refusal.TooBig else or_overflow given) ≡ Err e → ComesBehindLocks e
behind-cost count given true e h = inl (let x = h in cc)
behind-cost count None false e h = inr (inl (let x = h in cc))
behind-cost count (Some a) false e h = behind-rows a (nat_lt row_limit (count a)) e h

behind : {A : Type 0} (count : A → ℕ) (cost : ℕ) (given : Option A) (e : Refusal) → within_rows count (within_cost cost given) ≡ Err e → ComesBehindLocks e
behind count cost given e h = behind-cost count given (nat_lt cost_limit cost) e h

-- with a budget
behind-work : {A : Type 0} {r : Result A Refusal} {e : Refusal} → (r ≡ Err e → ComesBehindLocks e) → (refusal.TooBig ≡ e) ⊎ (r ≡ Err e) → ComesBehindLocks e
behind-work late (inl big) = inl (sym big)
behind-work late (inr h) = late h

-- ---- a transaction whose changes and marks are put anew

refilled : (session : Session) → has_transaction session ≡ true → active (changes_of session) (marks_of session) ≡ session
refilled closed h = absurd (false≢true h)
refilled idle h = absurd (false≢true h)
refilled (active changes marks) h = refl

module _ (tenant : ℕ) (bound : Bound) (state : State) (s : ℕ) where
  abbrev asked : List (ℕ × LockMode) → Progress
  asked request = record (progress_of bound.work state s) { locks = with_locks state.locks s request }

  abbrev locked : List (ℕ × LockMode) → State
  locked request = record state { locks = with_locks state.locks s request }

  same-session : has_transaction (session_at state s) ≡ true → (o : ℕ) →
      cond (o == s) (active (changes_of (session_at state s)) (marks_of (session_at state s))) (session_at state o) ≡ session_at state o
  same-session has o = by (o == s) refl
    where
      by : (b : Bool) → (o == s) ≡ b → cond b (active (changes_of (session_at state s)) (marks_of (session_at state s))) (session_at state o) ≡ session_at state o
      by true own = refilled (session_at state s) has ∙ ap (session_at state) (sym (eqb-true o s own))
      by false other = refl

  goes-on : has_transaction (session_at state s) ≡ true → (request : List (ℕ × LockMode)) → with_progress state s (asked request) ≡ locked request
  goes-on has request = λ i. record state { locks = with_locks state.locks s request; sessions = λ o. same-session has o i }

  -- ---- what a command leaves where it is refused

  -- the state as it was, or with these locks
  abbrev Leaves : Option (List (ℕ × LockMode)) → State × Reply → Type 0
  Leaves asks r =
      (e : Refusal) → r.1 ≡ reply.No e →
      (r.0 ≡ state) ⊎ (ComesBehindLocks e × (request : List (ℕ × LockMode)) × (asks ≡ Some request) × (first_conflict state.locks s request ≡ None) × (r.0 ≡ locked request))

  leaves-request : (request : List (ℕ × LockMode)) (next : Progress → State × Reply) →
      ((e : Refusal) → (next (asked request)).1 ≡ reply.No e → ComesBehindLocks e × ((next (asked request)).0 ≡ locked request)) →
      Leaves (Some request) (with_request bound state s request next)
  leaves-request request next h = by (first_conflict state.locks s request) refl
    where
      by : (o : Option ℕ) → first_conflict state.locks s request ≡ o →
          Leaves (Some request) (elim o as (λ _. State × Reply) [ Some table ↦ (state, reply.No (refusal.Locked (name_at state.catalog.tables table))) | None ↦ next (asked request) ])
      by (Some table) conflict = λ e told. inl refl
      by None free = λ e told. let left = h e told in inr (left.0, request, refl, free, left.1)

  leaves-change : has_transaction (session_at state s) ≡ true → (request : List (ℕ × LockMode)) (r : Result (List Change × Option ℕ) Refusal) →
      ((e : Refusal) → r ≡ Err e → ComesBehindLocks e) → (e : Refusal) →
      (change_seen state s (asked request) r).1 ≡ reply.No e → ComesBehindLocks e × ((change_seen state s (asked request) r).0 ≡ locked request)
  leaves-change has request (Err why) late e told = (late e (let x = told in cc), goes-on has request)
  leaves-change has request (Ok effect) late e told = absurd (let x = told in cc)

  rows-refused : (r : Result (List (List Value)) Refusal) (e : Refusal) → reply_rows r ≡ reply.No e → r ≡ Err e
  rows-refused (Err why) e told = let x = told in cc
  rows-refused (Ok rows) e told = absurd (let x = told in cc)

  never : (catalog : Catalog) (outcome : Outcome) (trace : List (List ℕ × Verdict)) (e : Refusal) → reply_of catalog outcome trace ≡ reply.No e → ⊥
  never catalog Done trace e told = cc
  never catalog (ByRule r) trace e told = cc
  never catalog (ByError r error) trace e told = cc
  never catalog ByLimit trace e told = cc

  leaves-process : (asks : Option (List (ℕ × LockMode))) (eligible : ℕ → Bool) (finish : State → State) → Leaves asks (process_at tenant bound state s eligible finish)
  leaves-process asks eligible finish e told =
      let p = process bound.considerations (setting_of tenant state s) eligible (progress_of bound.work state s) in absurd (never state.catalog p.outcome (named state.catalog p.trace) e told)

  leaves-perform : (r : Resolved) → ((request : List (ℕ × LockMode)) → request_of (Ok r) ≡ Some request → has_transaction (session_at state s) ≡ true) →
      Leaves (request_of (Ok r)) (perform tenant bound state s r)
  leaves-perform commit has = leaves-process None (is_active state.catalog.rules) (λ after. committed after s)
  leaves-perform process_rules has = leaves-process None (is_active state.catalog.rules) stays
  leaves-perform (process_ruleset name) has = leaves-process None (λ id. is_active state.catalog.rules id && is_member state.catalog.rulesets name id) stays
  leaves-perform (process_rule r) has = leaves-process None (λ id. (id == r) && is_active state.catalog.rules id) stays
  leaves-perform (query q) has =
      let seen = seen_with (setting_of tenant state s) no_transition (asked (query_locks q)) in
      leaves-request (query_locks q) (select_seen tenant state s q)
      (λ e told. (
        behind-work (behind length (query_cost (row_count seen) q) (rows_of (rows_in seen) q []) e) (rows-refused-within seen q bound.work e (rows-refused (select_within seen q bound.work) e told)),
        goes-on (has (query_locks q) refl) (query_locks q),
      ))
  leaves-perform (change statement) has =
      let seen = seen_with (setting_of tenant state s) no_transition (asked (statement_locks statement)) in
      leaves-request (statement_locks statement) (perform_change tenant state s statement)
      (leaves-change (has (statement_locks statement) refl) (statement_locks statement) (statement_effect (setting_of tenant state s) no_transition statement (asked (statement_locks statement)))
      (λ e refused.
      behind-work (behind (rows_after seen statement) (statement_cost seen statement) (changes_by seen statement) e)
      (effect-refused seen state.catalog.rules statement bound.work e refused)))
  leaves-perform other has = λ e told. absurd (let x = told in cc)

  leaves-outcome : (r : Option Refusal) (w : Result Resolved Refusal) →
      (r ≡ None → (request : List (ℕ × LockMode)) → request_of w ≡ Some request → has_transaction (session_at state s) ≡ true) →
      Leaves (request_of w) (outcome_of tenant bound state s r w)
  leaves-outcome (Some r) w has = λ e told. inl refl
  leaves-outcome None (Err r) has = λ e told. inl refl
  leaves-outcome None (Ok r) has = leaves-perform r (has refl)

  -- a query or a statement runs in a transaction
  works-in : (opened own : Bool) → first_of (not opened) refusal.NotOpen (first_of (not own) refusal.NoTransaction None) ≡ None → own ≡ true
  works-in true true h = refl
  works-in true false h = absurd (let e = h in cc)
  works-in false own h = absurd (let e = h in cc)

  has-transaction : (c : Command) → session_refusal (class_of c) state s ≡ None → (request : List (ℕ × LockMode)) → request_of (walk state.catalog c) ≡ Some request →
      has_transaction (session_at state s) ≡ true
  has-transaction c free request asks = by (is_statement c) refl
    where
      works-as : (d : Command) → is_statement d ≡ true → class_of d ≡ works
      works-as (text.query q) h = refl
      works-as (text.change x) h = refl
      works-as other h = absurd (false≢true h)

      by : (b : Bool) → is_statement c ≡ b → has_transaction (session_at state s) ≡ true
      by false h = absurd (let x = sym (none-walk state.catalog c h) ∙ asks in cc)
      by true h =
          works-in (is_open (session_at state s)) (has_transaction (session_at state s)) (ap (λ (class : Class). session_refusal class state s) (sym (works-as c h)) ∙ free)

  leaves-command : (c : Command) → Leaves (request_of (walk state.catalog c)) (reply_to_command tenant bound state s c)
  leaves-command c = leaves-outcome (session_refusal (class_of c) state s) (walk state.catalog c) (has-transaction c)

  leaves-line : (line : List ℕ) → Leaves (request_in state line) (reply_to tenant bound state s line)
  leaves-line line = by (command_of line)
    where
      by : (o : Option Command) →
          Leaves (option_and_then (λ c. request_of (walk state.catalog c)) o)
          (elim o as (λ _. State × Reply) [ None ↦ (state, reply.No refusal.Syntax) | Some command ↦ reply_to_command tenant bound state s command ])
      by None = λ e told. inl refl
      by (Some command) = leaves-command command

  abbrev placed : Bool → State × Reply → State × Answer
  placed full r = elim full [ true ↦ (state, record { number = None; reply = reply.No refusal.TrailFull }) | false ↦ numbered state r ]

  leaves-step : (line : List ℕ) (full : Bool) (e : Refusal) → (placed full (reply_to tenant bound state s line)).1.reply ≡ reply.No e →
      ChangesNothing state (placed full (reply_to tenant bound state s line)).0 ⊎ (ComesBehindLocks e × TakesLocks state s line (placed full (reply_to tenant bound state s line)).0)
  leaves-step line true e told = inl refl
  leaves-step line false e told = by (leaves-line line e told)
    where
      after : State
      after = (reply_to tenant bound state s line).0

      by : (after ≡ state) ⊎ (ComesBehindLocks e × (request : List (ℕ × LockMode)) × (request_in state line ≡ Some request) × (first_conflict state.locks s request ≡ None) × (after ≡ locked request)) →
          ChangesNothing state (record after { steps = state.steps + 1 }) ⊎ (ComesBehindLocks e × TakesLocks state s line (record after { steps = state.steps + 1 }))
      by (inl same) = inl (λ i. record (same i) { steps = state.steps + 1 })
      by (inr (late, request, asks, free, is)) = inr (late, (request, asks, free, λ i. record (is i) { steps = state.steps + 1 }))

pub take_locks_at_most : (tenant : ℕ) (bound : Bound) → RefusalsTakeLocksAtMost tenant bound
take_locks_at_most tenant bound state s line e told = leaves-step tenant bound state s line (is_full_for state s line) e told

pub change_nothing : (tenant : ℕ) (bound : Bound) → RefusedDefinitionsChangeNothing tenant bound
change_nothing tenant bound state s line command e is class told = by (take_locks_at_most tenant bound state s line e told)
  where
    none : request_in state line ≡ None
    none = ap (option_and_then (λ c. request_of (walk state.catalog c))) is ∙ none-walk state.catalog command (no-definition command class)

    by : ChangesNothing state (step tenant bound state s line).0 ⊎ (ComesBehindLocks e × TakesLocks state s line (step tenant bound state s line).0) →
        ChangesNothing state (step tenant bound state s line).0
    by (inl same) = same
    by (inr (late, (request, asks, free, after))) = absurd (let x = sym none ∙ asks in cc)
