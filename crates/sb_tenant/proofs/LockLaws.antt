-- Locks belong to transactions: what each command leaves of it, and so each legal trail.
use Rattle.std.proofs.Common.{◌≡◌, ◌∙◌, ℕ, ◌+◌, ◌≤◌, Bool, true, false, not, ◌&&◌, ◌==◌, cond, nat_eq, List, [], ◌++◌, length, Option, Some, None, Result, Ok, Err, refl, sym, ap, subst, eqb-true, true≢false, arith, length-append, IsFalse}
use Rattle.std.proofs.lemmas.Bool.{eq-eqb}
use Rattle.sb_tenant.specs.declared.bound.Bound.{Bound}
use Rattle.sb_value.specs.declared.change.Change.{Change}
use Rattle.sb_value.specs.declared.lock.LockMode.{LockMode}
use Rattle.sb_value.specs.declared.refusal.Refusal.{Refusal}
use Rattle.sb_value.specs.declared.refusal.Refusal.TheVariants as refusal
use Rattle.sb_value.specs.Locks.{Locks, first_conflict, with_locks, released}
use Rattle.sb_value.specs.Table.{name_at}
use Rattle.sb_check.specs.declared.tree.Statement.{Statement}
use Rattle.sb_catalog.specs.Definitions.{is_member}
use Rattle.sb_catalog.specs.Rules.{is_active}
use Rattle.sb_eval.specs.Seen.{no_transition}
use Rattle.sb_eval.specs.Statement.{query_locks, statement_locks}
use Rattle.sb_process.specs.Consider.{statement_effect}
use Rattle.sb_eval.specs.Target.{target}
use Rattle.sb_process.specs.declared.Outcome.{Outcome}
use Rattle.sb_process.specs.declared.Outcome.TheVariants.{Done, ByRule, ByError, ByLimit}
use Rattle.sb_process.specs.Process.{process, stands_after}
use Rattle.sb_process.specs.Represents.{AreLocked}
use Rattle.sb_process.specs.Setting.{Setting, Progress, seen_with}
use Rattle.sb_syntax.specs.Text.{command_of}
use Rattle.sb_syntax.specs.Tree as text
use Rattle.sb_syntax.specs.Tree.{Command}
use Rattle.sb_tenant.specs.declared.reply.Entry.{Entry}
use Rattle.sb_tenant.specs.declared.reply.Reply.{Reply}
use Rattle.sb_tenant.specs.declared.reply.Reply.TheVariants as reply
use Rattle.sb_tenant.specs.Perform.{with_request, change_seen, select_seen, perform_change, stands_as, stays, process_at, perform}
use Rattle.sb_tenant.specs.Resolved.{Resolved, open_session, end_session, begin, commit, rollback, process_rules, process_ruleset, process_rule, query, change}
use Rattle.sb_tenant.specs.State.{State, Session, closed, idle, active, Catalog, opening, session_at, is_open, has_transaction, changes_of, marks_of, with_session, setting_of, progress_of, with_progress, rolled_back, committed}
use Rattle.sb_tenant.specs.Step.{first_of, session_refusal, outcome_of, reply_to_command, reply_to, step}
use Rattle.sb_tenant.specs.Trail.{after_abort, is_no_memory, after_entry}
use Rattle.sb_tenant.specs.Walk.{class_of, walk}
use Rattle.sb_tenant.specs.WellFormed.{HasSoundLocks}
use Rattle.sb_tenant.proofs.Charging.{effect-changes}
use Rattle.sb_tenant.proofs.Keeping.{IsKept, process-keeps, Any, any-rules, step-keeps}
use Rattle.sb_tenant.proofs.Resolving.{is_edge}
use Rattle.sb_tenant.proofs.SessionLaws.{own_session, IsInner, refused, resolved, inner-walk}
use Rattle.sb_tenant.proofs.Standing.{still-locked}
use Rattle.sb_tenant.proofs.Taking.{Taken, taken-none, taken-request, taken-released}
use Rattle.sb_tenant.proofs.Targets.{of-target, target-asked, locked-more, locked-and}

-- ---- while a transaction goes on

-- what holds of a session's own transaction, against the locks that were held before
pub record IsFit (s : ℕ) (first : Locks) (p : Progress) : Type 0 where
  pub taken : Taken s first p.locks
  pub marks : (rule : ℕ) → p.marks rule ≤ length p.changes
  pub locked : AreLocked p.locks s p.changes

pub fit-kept : (setting : Setting) (first : Locks) → IsKept setting Any (IsFit setting.who.session first)
fit-kept setting first = record {
  mark = λ rule p h. record { taken = h.taken; marks = λ id. marked-within p h (nat_eq id rule.id) id; locked = h.locked };
  request = λ list p e h. record {
    taken = taken-request setting.who.session first p.locks list e h.taken;
    marks = h.marks;
    locked = locked-more p.locks setting.who.session list p.changes h.locked;
  };
  change = λ tables statement p changes good asked h e. record {
    taken = h.taken;
    marks = λ id. let m : p.marks id ≤ length p.changes = h.marks id in omega (arith, length-append p.changes changes);
    locked = locked-and p.locks setting.who.session (target statement) p.changes changes asked h.locked (of-target (seen_with setting tables p) statement changes e);
  };
  left = λ left p h. record { taken = h.taken; marks = h.marks; locked = h.locked };
}
  where
    marked-within : (p : Progress) → IsFit setting.who.session first p → (b : Bool) (id : ℕ) → cond b (length p.changes) (p.marks id) ≤ length p.changes
    marked-within p h true id = omega arith
    marked-within p h false id = h.marks id

-- ---- a session put anew

module _ (state : State) (h : HasSoundLocks state) (s : ℕ) where
  at : (session : Session) (o : ℕ) (P : Session → Type 0) → (nat_eq o s ≡ true → P session) → (nat_eq o s ≡ false → P (session_at state o)) → P (cond (nat_eq o s) session (session_at state o))
  at session o P own other = by (nat_eq o s) refl
    where
      by : (b : Bool) → nat_eq o s ≡ b → P (cond b session (session_at state o))
      by true e = own e
      by false e = other e

  pub sound-put : (catalog : Catalog) (steps : ℕ) (session : Session) (locks : Locks) → Taken s state.locks locks → ((rule : ℕ) → marks_of session rule ≤ length (changes_of session)) →
      ((t : ℕ) (m : LockMode) → IsFalse (has_transaction session) → IsFalse (locks s t m)) → AreLocked locks s (changes_of session) →
      HasSoundLocks (record { catalog = catalog; locks = locks; sessions = λ o. cond (nat_eq o s) session (session_at state o); steps = steps })
  sound-put catalog steps session locks taken marks owned locked = record {
    marks = λ o rule. at session o (λ x. marks_of x rule ≤ length (changes_of x)) (λ e. marks rule) (λ e. h.marks o rule);
    owned = λ o t m. at session o (λ x. IsFalse (has_transaction x) → IsFalse (locks o t m)) (λ e none. ap (λ n. locks n t m) (eqb-true o s e) ∙ owned t m none)
        (λ e none. taken.others o t m e ∙ h.owned o t m none);
    locked = λ o. at session o (λ x. AreLocked locks o (changes_of x)) (λ e. subst (λ n. AreLocked locks n (changes_of session)) (sym (eqb-true o s e)) locked)
        (λ e. still-locked state.locks locks o (λ t m. taken.others o t m e) (changes_of (session_at state o)) (h.locked o));
    exclusive = taken.exclusive;
  }

  pub sound-same : (catalog : Catalog) (steps : ℕ) → HasSoundLocks (record { catalog = catalog; locks = state.locks; sessions = state.sessions; steps = steps })
  sound-same catalog steps = record { marks = h.marks; owned = h.owned; locked = h.locked; exclusive = h.exclusive }

  sound-open : has_transaction (session_at state s) ≡ false → HasSoundLocks (with_session state s idle)
  sound-open none = sound-put state.catalog state.steps idle state.locks (taken-none s state.locks h.exclusive) (λ rule. omega arith) (λ t m e. h.owned s t m none) tt

  sound-begin : HasSoundLocks (with_session state s (active [] (λ id. 0)))
  sound-begin = sound-put state.catalog state.steps (active [] (λ id. 0)) state.locks (taken-none s state.locks h.exclusive) (λ rule. omega arith) (λ t m e. absurd (true≢false e)) tt

  -- its transaction ends, with these committed tables
  sound-idle : (catalog : Catalog) → HasSoundLocks (record (rolled_back state s) { catalog = catalog })
  sound-idle catalog =
      sound-put catalog state.steps idle (released state.locks s) (taken-released s state.locks h.exclusive) (λ rule. omega arith)
      (λ t m e. ap (λ (b : Bool). not b && state.locks s t m) (eq-eqb s s refl)) tt

  pub sound-goes : (p : Progress) → IsFit s state.locks p → HasSoundLocks (with_progress state s p)
  sound-goes p fit = sound-put state.catalog state.steps (active p.changes p.marks) p.locks fit.taken fit.marks (λ t m e. absurd (true≢false e)) fit.locked

  pub begins-fit : (left : Option ℕ) → IsFit s state.locks (progress_of left state s)
  begins-fit left = record { taken = taken-none s state.locks h.exclusive; marks = λ rule. h.marks s rule; locked = h.locked s }

sound-closed : (state : State) → HasSoundLocks state → (s : ℕ) → HasSoundLocks (with_session (rolled_back state s) s closed)
sound-closed state h s =
    let back = rolled_back state s in
    let k = sound-idle state h s state.catalog in
    sound-put back k s back.catalog back.steps closed back.locks (taken-none s back.locks k.exclusive) (λ rule. omega arith)
    (λ t m e. k.owned s t m (ap has_transaction (own_session state s idle))) tt

-- ---- what each command does

module _ (tenant : ℕ) (bound : Bound) (state : State) (h : HasSoundLocks state) (s : ℕ) where
  abbrev setting : Setting
  setting = setting_of tenant state s

  sound-stands : (finish : State → State) → ((p : Progress) → HasSoundLocks (with_progress state s p) → HasSoundLocks (finish (with_progress state s p))) →
      (outcome : Outcome) (p : Progress) → IsFit s state.locks p → HasSoundLocks (stands_as state s finish (stands_after outcome p))
  sound-stands finish finishes Done p fit = finishes p (sound-goes state h s p fit)
  sound-stands finish finishes (ByRule r) p fit = sound-idle state h s state.catalog
  sound-stands finish finishes (ByError r refusal) p fit = sound-idle state h s state.catalog
  sound-stands finish finishes ByLimit p fit = sound-idle state h s state.catalog

  sound-process : (eligible : ℕ → Bool) (finish : State → State) → ((p : Progress) → HasSoundLocks (with_progress state s p) → HasSoundLocks (finish (with_progress state s p))) →
      HasSoundLocks (process_at tenant bound state s eligible finish).0
  sound-process eligible finish finishes =
      let p = process bound.considerations setting eligible (progress_of bound.work state s) in
      sound-stands finish finishes p.outcome p.progress
      (process-keeps setting Any (IsFit s state.locks) (fit-kept setting state.locks) (any-rules setting.rules) bound.considerations eligible (progress_of bound.work state s) (begins-fit state h s bound.work))

  abbrev pub asked : List (ℕ × LockMode) → Progress
  asked request = record (progress_of bound.work state s) { locks = with_locks state.locks s request }

  sound-request : (request : List (ℕ × LockMode)) (next : Progress → State × Reply) → (IsFit s state.locks (asked request) → HasSoundLocks (next (asked request)).0) → HasSoundLocks (with_request bound state s request next).0
  sound-request request next f = by (first_conflict state.locks s request) refl
    where
      by : (o : Option ℕ) → first_conflict state.locks s request ≡ o →
          HasSoundLocks (elim o as (λ _. State × Reply) [ Some table ↦ (state, reply.No (refusal.Locked (name_at state.catalog.tables table))) | None ↦ next (asked request) ]).0
      by (Some table) e = h
      by None e = f ((fit-kept setting state.locks).request request (progress_of bound.work state s) e (begins-fit state h s bound.work))

  sound-change : (statement : Statement) → IsFit s state.locks (asked (statement_locks statement)) → HasSoundLocks (perform_change tenant state s statement (asked (statement_locks statement))).0
  sound-change statement fit = by (statement_effect setting no_transition statement p) refl
    where
      p : Progress
      p = asked (statement_locks statement)

      by : (r : Result (List Change × Option ℕ) Refusal) → statement_effect setting no_transition statement p ≡ r → HasSoundLocks (change_seen state s p r).0
      by (Err e) given = sound-goes state h s p fit
      by (Ok effect) given =
          sound-goes state h s (record p { changes = p.changes ++ effect.0 })
          ((fit-kept setting state.locks).change no_transition statement p effect.0 tt (target-asked state.locks s statement) fit
          (effect-changes (seen_with setting no_transition p) setting.rules statement p.left effect given))

  pub sound-perform : (r : Resolved) → is_edge r ≡ false → HasSoundLocks (perform tenant bound state s r).0
  sound-perform open_session e = absurd (true≢false e)
  sound-perform end_session e = absurd (true≢false e)
  sound-perform begin e = sound-begin state h s
  sound-perform commit e =
      sound-process (is_active state.catalog.rules) (λ after. committed after s)
      (λ p k. sound-idle (with_progress state s p) k s (committed (with_progress state s p) s).catalog)
  sound-perform rollback e = sound-idle state h s state.catalog
  sound-perform process_rules e = sound-process (is_active state.catalog.rules) stays (λ p k. k)
  sound-perform (process_ruleset name) e = sound-process (λ id. is_active state.catalog.rules id && is_member state.catalog.rulesets name id) stays (λ p k. k)
  sound-perform (process_rule r) e = sound-process (λ id. (id == r) && is_active state.catalog.rules id) stays (λ p k. k)
  sound-perform (query q) e = sound-request (query_locks q) (select_seen tenant state s q) (λ fit. sound-goes state h s (asked (query_locks q)) fit)
  sound-perform (change statement) e = sound-request (statement_locks statement) (perform_change tenant state s statement) (sound-change statement)
  sound-perform defining e = sound-same state h s (perform tenant bound state s defining).0.catalog state.steps

  sound-inner : (r : Option Refusal) (w : Result Resolved Refusal) → IsInner w → HasSoundLocks (outcome_of tenant bound state s r w).0
  sound-inner (Some r) w k = h
  sound-inner None w (refused e) = h
  sound-inner None w (resolved r k) = sound-perform r k

  no-transaction : (session : Session) → is_open session ≡ false → has_transaction session ≡ false
  no-transaction closed e = refl
  no-transaction idle e = refl
  no-transaction (active changes marks) e = e

  sound-opens : (b : Bool) → is_open (session_at state s) ≡ b → HasSoundLocks (outcome_of tenant bound state s (first_of b refusal.AlreadyOpen None) (Ok open_session)).0
  sound-opens true e = h
  sound-opens false e = sound-open state h s (no-transaction (session_at state s) e)

  sound-ends : (b : Bool) → HasSoundLocks (outcome_of tenant bound state s (first_of b refusal.NotOpen None) (Ok end_session)).0
  sound-ends true = h
  sound-ends false = sound-closed state h s

  sound-command : (c : Command) → HasSoundLocks (reply_to_command tenant bound state s c).0
  sound-command text.open_session = sound-opens (is_open (session_at state s)) refl
  sound-command text.end_session = sound-ends (not (is_open (session_at state s)))
  sound-command c = sound-inner (session_refusal (class_of c) state s) (walk state.catalog c) (inner-walk state.catalog c refl)

  pub sound-line : (line : List ℕ) → HasSoundLocks (reply_to tenant bound state s line).0
  sound-line line = by (command_of line)
    where
      by : (o : Option Command) → HasSoundLocks (elim o as (λ _. State × Reply) [ None ↦ (state, reply.No refusal.Syntax) | Some command ↦ reply_to_command tenant bound state s command ]).0
      by None = h
      by (Some command) = sound-command command

  pub sound-step : (line : List ℕ) → HasSoundLocks (step tenant bound state s line).0
  sound-step line = step-keeps HasSoundLocks tenant bound state s line h (let next = (reply_to tenant bound state s line).0 in sound-same next (sound-line line) s next.catalog (state.steps + 1))

  pub sound-abort : HasSoundLocks (after_abort state s)
  sound-abort = by (has_transaction (session_at state s))
    where
      by : (b : Bool) → HasSoundLocks (record (elim b as (λ _. State) [ true ↦ rolled_back state s | false ↦ state ]) { steps = state.steps + 1 })
      by true = sound-same (rolled_back state s) (sound-idle state h s state.catalog) s state.catalog (state.steps + 1)
      by false = sound-same state h s state.catalog (state.steps + 1)

-- ---- legal trails

pub opening-sound : HasSoundLocks opening
opening-sound = record {
  marks = λ s rule. omega arith;
  owned = λ s t m none. refl;
  locked = λ s. tt;
  exclusive = λ s o t m is io differ e. refl;
}

module _ (tenant : ℕ) (bound : Bound) where
  pub sound-entry : (state : State) (entry : Entry) → HasSoundLocks state → HasSoundLocks (after_entry tenant bound state entry)
  sound-entry state entry h = by (is_no_memory entry.reply)
    where
      by : (b : Bool) → HasSoundLocks (elim b as (λ _. State) [ true ↦ after_abort state entry.session | false ↦ (step tenant bound state entry.session entry.line).0 ])
      by true = sound-abort tenant bound state h entry.session
      by false = sound-step tenant bound state h entry.session entry.line
