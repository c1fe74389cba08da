-- What a step does to its own session and to the others.
use Rattle.std.proofs.Common.{◌≡◌, ℕ, Bool, true, false, not, cond, ◌&&◌, ◌==◌, List, [], ◌++◌, Option, Some, None, Result, Ok, Err, refl, sym, ◌∙◌, ap}
use Rattle.std.proofs.lemmas.Bool.{eq-eqb, true≢false}
use Rattle.sb_tenant.specs.declared.bound.Bound.{Bound}
use Rattle.sb_value.specs.declared.change.Change.{Change}
use Rattle.sb_value.specs.declared.lock.LockMode.{LockMode}
use Rattle.sb_value.specs.declared.refusal.Refusal.{Refusal}
use Rattle.sb_value.specs.Table.{name_at}
use Rattle.sb_value.specs.Locks.{first_conflict, with_locks}
use Rattle.sb_syntax.specs.Text.{command_of}
use Rattle.sb_syntax.specs.Tree as text
use Rattle.sb_syntax.specs.Tree.{Command}
use Rattle.sb_eval.specs.Seen.{no_transition}
use Rattle.sb_eval.specs.Statement.{query_locks, statement_locks}
use Rattle.sb_process.specs.Consider.{statement_effect}
use Rattle.sb_process.specs.Setting.{Progress}
use Rattle.sb_process.specs.Process.{Standing, goes_on, taken_back, process, standing}
use Rattle.sb_tenant.specs.declared.reply.Answer.{Answer}
use Rattle.sb_tenant.specs.declared.reply.Reply.{Reply}
use Rattle.sb_tenant.specs.declared.reply.Reply.TheVariants as reply
use Rattle.sb_value.specs.declared.refusal.Refusal.TheVariants.{Locked}
use Rattle.sb_value.specs.declared.refusal.Refusal.TheVariants as refusal
use Rattle.sb_tenant.specs.State.{State, Catalog, Session, idle, closed, active, session_at, is_open, with_session, with_progress, progress_of, setting_of, rolled_back, committed}
use Rattle.sb_tenant.specs.Resolved.{Resolved, open_session, end_session, begin, commit, rollback, process_rules, process_ruleset, process_rule, create_table, drop_table, create_rule, alter_rule, drop_rule, activate_rule, deactivate_rule, create_ruleset, drop_ruleset, add_rules, del_rules, query, change, begins, defines, works}
use Rattle.sb_tenant.specs.Walk.{walk, class_of}
use Rattle.sb_tenant.specs.Perform.{with_request, change_seen, select_seen, perform_change, stands_as, stays, process_at, perform}
use Rattle.sb_catalog.specs.Definitions.{is_member}
use Rattle.sb_catalog.specs.Rules.{is_active}
use Rattle.sb_tenant.specs.Step.{first_of, session_refusal, outcome_of, reply_to_command, reply_to, step, numbered, is_full_for}
use Rattle.sb_tenant.specs.TrailLaws.{open_by}
use Rattle.sb_tenant.proofs.Resolving as kinds
use Rattle.sb_tenant.proofs.Resolving.{is_edge, is_edge_command, IsOf, kind-walk}

-- ---- the sessions of a state with one session put anew

pub own_session : (state : State) (s : ℕ) (session : Session) → session_at (with_session state s session) s ≡ session
own_session state s session = ap (λ b. cond b session (session_at state s)) (eq-eqb s s refl)

pub other_session : (state : State) (s : ℕ) (session : Session) (o : ℕ) → (o == s) ≡ false → session_at (with_session state s session) o ≡ session_at state o
other_session state s session o other = ap (λ b. cond b session (session_at state o)) other

-- ---- others stay

module _ (s o : ℕ) (other : (o == s) ≡ false) where
  twice : (state : State) (one two : Session) → session_at (with_session (with_session state s one) s two) o ≡ session_at state o
  twice state one two = other_session (with_session state s one) s two o other ∙ other_session state s one o other

  stands-commit : (state : State) (standing : Standing) → session_at (stands_as state s (λ after. committed after s) standing) o ≡ session_at state o
  stands-commit state (goes_on progress) = twice state (active progress.changes progress.marks) idle
  stands-commit state taken_back = other_session state s idle o other

  stands-stays : (state : State) (standing : Standing) → session_at (stands_as state s stays standing) o ≡ session_at state o
  stands-stays state (goes_on progress) = other_session state s (active progress.changes progress.marks) o other
  stands-stays state taken_back = other_session state s idle o other

  change-other : (state : State) (progress : Progress) (given : Result (List Change × Option ℕ) Refusal) → session_at (change_seen state s progress given).0 o ≡ session_at state o
  change-other state progress (Err refusal) = other_session state s (active progress.changes progress.marks) o other
  change-other state progress (Ok effect) = other_session state s (active (progress.changes ++ effect.0) progress.marks) o other

  request-other : (bound : Bound) (state : State) (request : List (ℕ × LockMode)) (next : Progress → State × Reply) → ((p : Progress) → session_at (next p).0 o ≡ session_at state o) →
      session_at (with_request bound state s request next).0 o ≡ session_at state o
  request-other bound state request next h =
      elim (first_conflict state.locks s request) as (λ x.
      let r : State × Reply = elim x [
        | Some table ↦ (state, reply.No (Locked (name_at state.catalog.tables table)))
        | None ↦ next (record (progress_of bound.work state s) { locks = with_locks state.locks s request })
      ] in session_at r.0 o ≡ session_at state o) [ Some table ↦ refl | None ↦ h _ ]

  commit-other : (tenant : ℕ) (bound : Bound) (state : State) → session_at (perform tenant bound state s commit).0 o ≡ session_at state o
  commit-other tenant bound state =
      let p = process bound.considerations (setting_of tenant state s) (is_active state.catalog.rules) (progress_of bound.work state s) in stands-commit state (standing p)

  process-other : (tenant : ℕ) (bound : Bound) (state : State) (eligible : ℕ → Bool) → session_at (process_at tenant bound state s eligible stays).0 o ≡ session_at state o
  process-other tenant bound state eligible =
      let p = process bound.considerations (setting_of tenant state s) eligible (progress_of bound.work state s) in stands-stays state (standing p)

  pub perform-other : (tenant : ℕ) (bound : Bound) (state : State) (r : Resolved) → session_at (perform tenant bound state s r).0 o ≡ session_at state o
  perform-other tenant bound state open_session = other_session state s idle o other
  perform-other tenant bound state end_session = twice state idle closed
  perform-other tenant bound state begin = other_session state s (active [] (λ id. 0)) o other
  perform-other tenant bound state commit = commit-other tenant bound state
  perform-other tenant bound state rollback = other_session state s idle o other
  perform-other tenant bound state process_rules = process-other tenant bound state (is_active state.catalog.rules)
  perform-other tenant bound state (process_ruleset name) = process-other tenant bound state (λ id. is_active state.catalog.rules id && is_member state.catalog.rulesets name id)
  perform-other tenant bound state (process_rule r) = process-other tenant bound state (λ id. (id == r) && is_active state.catalog.rules id)
  perform-other tenant bound state (create_table name columns) = refl
  perform-other tenant bound state (drop_table id) = refl
  perform-other tenant bound state (create_rule new) = refl
  perform-other tenant bound state (alter_rule new) = refl
  perform-other tenant bound state (drop_rule id) = refl
  perform-other tenant bound state (activate_rule id) = refl
  perform-other tenant bound state (deactivate_rule id) = refl
  perform-other tenant bound state (create_ruleset name) = refl
  perform-other tenant bound state (drop_ruleset name) = refl
  perform-other tenant bound state (add_rules name ids) = refl
  perform-other tenant bound state (del_rules name ids) = refl
  perform-other tenant bound state (query q) =
      request-other bound state (query_locks q) (select_seen tenant state s q) (λ p. other_session state s (active p.changes p.marks) o other)
  perform-other tenant bound state (change statement) =
      request-other bound state (statement_locks statement) (perform_change tenant state s statement)
      (λ p. change-other state p (statement_effect (setting_of tenant state s) no_transition statement p))

-- ---- the own session

-- a walk that resolves to neither `open` nor `end`
pub data IsInner : Result Resolved Refusal → Type 0 where
  refused : (e : Refusal) → IsInner (Err e)
  resolved : (r : Resolved) → is_edge r ≡ false → IsInner (Ok r)

module _ (tenant : ℕ) (bound : Bound) (state : State) (s : ℕ) (was_open : is_open (session_at state s) ≡ true) where
  set_open : (before : State) (session : Session) → is_open session ≡ true → is_open (session_at (with_session before s session) s) ≡ true
  set_open before session h = ap is_open (own_session before s session) ∙ h

  stands-commit-open : (standing : Standing) → is_open (session_at (stands_as state s (λ after. committed after s) standing) s) ≡ true
  stands-commit-open (goes_on progress) = set_open (with_progress state s progress) idle refl
  stands-commit-open taken_back = set_open state idle refl

  stands-stays-open : (standing : Standing) → is_open (session_at (stands_as state s stays standing) s) ≡ true
  stands-stays-open (goes_on progress) = set_open state (active progress.changes progress.marks) refl
  stands-stays-open taken_back = set_open state idle refl

  change-open : (progress : Progress) (given : Result (List Change × Option ℕ) Refusal) → is_open (session_at (change_seen state s progress given).0 s) ≡ true
  change-open progress (Err refusal) = set_open state (active progress.changes progress.marks) refl
  change-open progress (Ok effect) = set_open state (active (progress.changes ++ effect.0) progress.marks) refl

  request-open : (request : List (ℕ × LockMode)) (next : Progress → State × Reply) → ((p : Progress) → is_open (session_at (next p).0 s) ≡ true) →
      is_open (session_at (with_request bound state s request next).0 s) ≡ true
  request-open request next h =
      elim (first_conflict state.locks s request) as (λ x.
      let r : State × Reply = elim x [
        | Some table ↦ (state, reply.No (Locked (name_at state.catalog.tables table)))
        | None ↦ next (record (progress_of bound.work state s) { locks = with_locks state.locks s request })
      ] in is_open (session_at r.0 s) ≡ true) [ Some table ↦ was_open | None ↦ h _ ]

  commit-open : is_open (session_at (perform tenant bound state s commit).0 s) ≡ true
  commit-open =
      let p = process bound.considerations (setting_of tenant state s) (is_active state.catalog.rules) (progress_of bound.work state s) in stands-commit-open (standing p)

  process-open : (eligible : ℕ → Bool) → is_open (session_at (process_at tenant bound state s eligible stays).0 s) ≡ true
  process-open eligible =
      let p = process bound.considerations (setting_of tenant state s) eligible (progress_of bound.work state s) in stands-stays-open (standing p)

  perform-open : (r : Resolved) → is_edge r ≡ false → is_open (session_at (perform tenant bound state s r).0 s) ≡ true
  perform-open open_session h = absurd (true≢false h)
  perform-open end_session h = absurd (true≢false h)
  perform-open begin h = set_open state (active [] (λ id. 0)) refl
  perform-open commit h = commit-open
  perform-open rollback h = set_open state idle refl
  perform-open process_rules h = process-open (is_active state.catalog.rules)
  perform-open (process_ruleset name) h = process-open (λ id. is_active state.catalog.rules id && is_member state.catalog.rulesets name id)
  perform-open (process_rule r) h = process-open (λ id. (id == r) && is_active state.catalog.rules id)
  perform-open (create_table name columns) h = was_open
  perform-open (drop_table id) h = was_open
  perform-open (create_rule new) h = was_open
  perform-open (alter_rule new) h = was_open
  perform-open (drop_rule id) h = was_open
  perform-open (activate_rule id) h = was_open
  perform-open (deactivate_rule id) h = was_open
  perform-open (create_ruleset name) h = was_open
  perform-open (drop_ruleset name) h = was_open
  perform-open (add_rules name ids) h = was_open
  perform-open (del_rules name ids) h = was_open
  perform-open (query q) h = request-open (query_locks q) (select_seen tenant state s q) (λ p. set_open state (active p.changes p.marks) refl)
  perform-open (change statement) h =
      request-open (statement_locks statement) (perform_change tenant state s statement)
      (λ p. change-open p (statement_effect (setting_of tenant state s) no_transition statement p))

-- ---- the walk of other commands gives neither

pub inner-walk : (catalog : Catalog) (c : Command) → is_edge_command c ≡ false → IsInner (walk catalog c)
inner-walk catalog c h = by (walk catalog c) (kind-walk catalog c)
  where
    by : (w : Result Resolved Refusal) → IsOf c w → IsInner w
    by w (kinds.refused e) = refused e
    by w (kinds.resolved r edge locking) = resolved r (edge ∙ h)

-- ---- what a command does to its own session

none_of_first : (r : Refusal) (b : Bool) (others : Option Refusal) → first_of (not b) r others ≡ None → b ≡ true
none_of_first r true others h = refl
none_of_first r false others h = cc

module _ (tenant : ℕ) (bound : Bound) (state : State) (s : ℕ) where
  stays-open : (r : Option Refusal) (w : Result Resolved Refusal) → IsInner w → (r ≡ None → is_open (session_at state s) ≡ true) →
      is_open (session_at (outcome_of tenant bound state s r w).0 s) ≡ is_open (session_at state s)
  stays-open (Some r) w h opened = refl
  stays-open None w (refused e) opened = refl
  stays-open None w (resolved r h) opened = perform-open tenant bound state s (opened refl) r h ∙ sym (opened refl)

  defining : (w : Result Resolved Refusal) → IsInner w → is_open (session_at (outcome_of tenant bound state s (session_refusal defines state s) w).0 s) ≡ is_open (session_at state s)
  defining w h = stays-open (session_refusal defines state s) w h (none_of_first refusal.NotOpen (is_open (session_at state s)) _)

  working : (w : Result Resolved Refusal) → IsInner w → is_open (session_at (outcome_of tenant bound state s (session_refusal works state s) w).0 s) ≡ is_open (session_at state s)
  working w h = stays-open (session_refusal works state s) w h (none_of_first refusal.NotOpen (is_open (session_at state s)) _)

  -- `open` and `end`, by whether the session is open
  opening_of : (b : Bool) → is_open (session_at state s) ≡ b → is_open (session_at (outcome_of tenant bound state s (first_of b refusal.AlreadyOpen None) (Ok open_session)).0 s) ≡ true
  opening_of true h = h
  opening_of false h = ap is_open (own_session state s idle)

  ending_of : (b : Bool) → is_open (session_at state s) ≡ b → is_open (session_at (outcome_of tenant bound state s (first_of (not b) refusal.NotOpen None) (Ok end_session)).0 s) ≡ false
  ending_of true h = ap is_open (own_session (rolled_back state s) s closed)
  ending_of false h = h

  pub own_command : (c : Command) → is_open (session_at (reply_to_command tenant bound state s c).0 s) ≡ open_by (Some c) (is_open (session_at state s))
  own_command text.open_session = opening_of (is_open (session_at state s)) refl
  own_command text.end_session = ending_of (is_open (session_at state s)) refl
  own_command text.begin = stays-open (session_refusal begins state s) (walk state.catalog text.begin) (inner-walk state.catalog text.begin refl) (none_of_first refusal.NotOpen (is_open (session_at state s)) _)
  own_command text.commit = working (walk state.catalog text.commit) (inner-walk state.catalog text.commit refl)
  own_command text.rollback = working (walk state.catalog text.rollback) (inner-walk state.catalog text.rollback refl)
  own_command text.process_rules = working (walk state.catalog text.process_rules) (inner-walk state.catalog text.process_rules refl)
  own_command (text.process_ruleset name) = working (walk state.catalog (text.process_ruleset name)) (inner-walk state.catalog (text.process_ruleset name) refl)
  own_command (text.process_rule name) = working (walk state.catalog (text.process_rule name)) (inner-walk state.catalog (text.process_rule name) refl)
  own_command (text.create_table name columns) = defining (walk state.catalog (text.create_table name columns)) (inner-walk state.catalog (text.create_table name columns) refl)
  own_command (text.drop_table name) = defining (walk state.catalog (text.drop_table name)) (inner-walk state.catalog (text.drop_table name) refl)
  own_command (text.create_rule r) = defining (walk state.catalog (text.create_rule r)) (inner-walk state.catalog (text.create_rule r) refl)
  own_command (text.alter_rule r) = defining (walk state.catalog (text.alter_rule r)) (inner-walk state.catalog (text.alter_rule r) refl)
  own_command (text.drop_rule name) = defining (walk state.catalog (text.drop_rule name)) (inner-walk state.catalog (text.drop_rule name) refl)
  own_command (text.activate_rule name) = defining (walk state.catalog (text.activate_rule name)) (inner-walk state.catalog (text.activate_rule name) refl)
  own_command (text.deactivate_rule name) = defining (walk state.catalog (text.deactivate_rule name)) (inner-walk state.catalog (text.deactivate_rule name) refl)
  own_command (text.create_ruleset name) = defining (walk state.catalog (text.create_ruleset name)) (inner-walk state.catalog (text.create_ruleset name) refl)
  own_command (text.drop_ruleset name) = defining (walk state.catalog (text.drop_ruleset name)) (inner-walk state.catalog (text.drop_ruleset name) refl)
  own_command (text.add_rules name rules) = defining (walk state.catalog (text.add_rules name rules)) (inner-walk state.catalog (text.add_rules name rules) refl)
  own_command (text.del_rules name rules) = defining (walk state.catalog (text.del_rules name rules)) (inner-walk state.catalog (text.del_rules name rules) refl)
  own_command (text.query q) = working (walk state.catalog (text.query q)) (inner-walk state.catalog (text.query q) refl)
  own_command (text.change c) = working (walk state.catalog (text.change c)) (inner-walk state.catalog (text.change c) refl)

-- ---- a line, and a step

module _ (tenant : ℕ) (bound : Bound) (state : State) (s : ℕ) where
  pub own_line : (line : List ℕ) → is_open (session_at (reply_to tenant bound state s line).0 s) ≡ open_by (command_of line) (is_open (session_at state s))
  own_line line =
      elim (command_of line) as (λ c.
      let r : State × Reply = elim c [ None ↦ (state, reply.No refusal.Syntax) | Some command ↦ reply_to_command tenant bound state s command ] in
      is_open (session_at r.0 s) ≡ open_by c (is_open (session_at state s))) [ None ↦ refl | Some command ↦ own_command tenant bound state s command ]

  other_outcome : (o : ℕ) → (o == s) ≡ false → (r : Option Refusal) (w : Result Resolved Refusal) → session_at (outcome_of tenant bound state s r w).0 o ≡ session_at state o
  other_outcome o other (Some r) w = refl
  other_outcome o other None (Err r) = refl
  other_outcome o other None (Ok r) = perform-other s o other tenant bound state r

  pub other_line : (line : List ℕ) (o : ℕ) → (o == s) ≡ false → session_at (reply_to tenant bound state s line).0 o ≡ session_at state o
  other_line line o other =
      elim (command_of line) as (λ c.
      let r : State × Reply = elim c [ None ↦ (state, reply.No refusal.Syntax) | Some command ↦ reply_to_command tenant bound state s command ] in
      session_at r.0 o ≡ session_at state o) [
        | None ↦ refl
        | Some command ↦ other_outcome o other (session_refusal (class_of command) state s) (walk state.catalog command)
      ]

  -- where the trail has a place, the step is what the line does
  pub own_step : (line : List ℕ) → is_full_for state s line ≡ false →
      is_open (session_at (step tenant bound state s line).0 s) ≡ open_by (command_of line) (is_open (session_at state s))
  own_step line room = (λ i. is_open (session_at (placed (room i)).0 s)) ∙ own_line line
    where
      placed : Bool → State × Answer
      placed b = elim b [ true ↦ (state, record { number = None; reply = reply.No refusal.TrailFull }) | false ↦ numbered state (reply_to tenant bound state s line) ]

  pub other_step : (line : List ℕ) (o : ℕ) → (o == s) ≡ false → session_at (step tenant bound state s line).0 o ≡ session_at state o
  other_step line o other =
      elim (is_full_for state s line) as (λ b.
      let r : State × Answer = elim b [ true ↦ (state, record { number = None; reply = reply.No refusal.TrailFull }) | false ↦ numbered state (reply_to tenant bound state s line) ] in
      session_at r.0 o ≡ session_at state o) [ true ↦ refl | false ↦ other_line line o other ]
