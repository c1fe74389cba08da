-- A session that opens, and one that closes.
use Rattle.std.proofs.Common.{None, ◌≡◌, ◌∙◌, ℕ, Bool, true, false, not, ◌&&◌, cond, nat_eq, List, [], refl, sym, ap, subst, IsTrue}
use Rattle.std.specs.List.{flat_map}
use Rattle.sb_value.specs.Locks.{Locks, sessions, released}
use Rattle.sb_rawlog.specs.Records.{Record}
use Rattle.sb_tables.specs.Held.{Held}
use Rattle.sb_locks.specs.Held.{held}
use Rattle.sb_index.specs.TableSets.{TableSets}
use Rattle.sb_value.specs.declared.lock.LockMode.{LockMode}
use Rattle.sb_process.specs.Made.{AreMade}
use Rattle.sb_process.specs.Represents.{AreCandidates, AreLocked}
use Rattle.sb_process.specs.Sharing.{TablesAreShared}
use Rattle.sb_process.specs.Transactions.{ArePast}
use Rattle.sb_process.specs.Work.{CanRun}
use Rattle.sb_catalog.specs.Definitions.{AreOrdered}
use Rattle.sb_rawlog.specs.Sessions.{changes_by}
use Rattle.sb_tenant.specs.declared.phase.Phase.TheVariants.{Closed, Idle, Active}
use Rattle.sb_tenant.specs.declared.store.Store.{Store}
use Rattle.sb_tenant.specs.Limits.{is_session}
use Rattle.sb_tenant.specs.Logged.{Agrees, who_of}
use Rattle.sb_tenant.specs.Represents.{phase_of, phase_at, all_changes, Holds, StandFor}
use Rattle.sb_tenant.specs.State.{State, Session, closed, idle, active, session_at, has_transaction, changes_of, marks_of, progress_of, rolled_back, with_session}
use Rattle.sb_tenant.specs.Trail.{aborted}
use Rattle.sb_tenant.proofs.Calls.{not-active, aborted-active, aborted-none}
use Rattle.sb_tenant.proofs.Moves.{stands-without}
use Rattle.sb_tenant.proofs.Standing.{IsCallOf}
use Rattle.sb_tenant.proofs.SessionLaws.{own_session, other_session}
use Rattle.sb_tenant.proofs.Standing.{changes_at, own-or-other, still-candidates}

is-closed : (x : Session) → phase_of x ≡ Closed → x ≡ closed
is-closed closed e = refl
is-closed idle e = absurd (cc)
is-closed (active changes marks) e = absurd (cc)

-- ---- a session opens

module _ (s : ℕ) (is : IsTrue (is_session s)) (old new : Store) (state : State) (origin : List Held) (h : Holds origin old state) (was : phase_at old.phases s ≡ Closed) where
  abbrev next : State
  next = with_session state s idle

  was-closed : session_at state s ≡ closed
  was-closed = is-closed (session_at state s) (sym (h.phases s is) ∙ was)

  same-changes : (o : ℕ) → changes_at next o ≡ changes_at state o
  same-changes o = own-or-other s o (λ x. changes_at next x ≡ changes_at state x) (ap changes_of (own_session state s idle) ∙ sym (ap changes_of was-closed)) (λ other. ap changes_of (other_session state s idle o other))

  same-marks : (o rule : ℕ) → marks_of (session_at next o) rule ≡ marks_of (session_at state o) rule
  same-marks o rule =
      own-or-other s o (λ x. marks_of (session_at next x) rule ≡ marks_of (session_at state x) rule) (ap (λ x. marks_of x rule) (own_session state s idle) ∙ sym (ap (λ x. marks_of x rule) was-closed))
      (λ other. ap (λ x. marks_of x rule) (other_session state s idle o other))

  pub opens-holds : new.database ≡ old.database → new.definitions ≡ old.definitions → (phase_at new.phases s ≡ Idle) → ((o : ℕ) → nat_eq o s ≡ false → phase_at new.phases o ≡ phase_at old.phases o) → Holds origin new next
  opens-holds database definitions phase others = record {
    committed = h.committed;
    made = subst (λ d. AreMade origin (all_changes next) d.tables) (sym database) (subst (λ cs. AreMade origin cs old.database.tables) (ap (λ f. flat_map f sessions) (λ i o. sym (same-changes o) i)) h.made);
    locked = λ o io. subst (AreLocked state.locks o) (sym (same-changes o)) (h.locked o io);
    exclusive = h.exclusive;
    locks = λ o t m. ap (λ d. held d.locks o t m) database ∙ h.locks o t m;
    phases = λ o io. own-or-other s o (λ x. phase_at new.phases x ≡ phase_of (session_at next x)) (phase ∙ ap phase_of (sym (own_session state s idle)))
        (λ other. others o other ∙ h.phases o io ∙ ap phase_of (sym (other_session state s idle o other)));
    candidates = λ o io. subst (λ d. AreCandidates d.transactions o (progress_of None next o) state.catalog.rules) (sym database)
        (still-candidates old.database.transactions old.database.transactions o (progress_of None state o) (progress_of None next o) (λ r. refl) (same-changes o) (same-marks o) state.catalog.rules (h.candidates o io));
    rules = ap (λ d. d.rules) definitions ∙ h.rules;
    ordered = subst (λ d. AreOrdered d.order state.catalog.rules state.catalog.pairs) (sym definitions) h.ordered;
    rulesets = ap (λ d. d.rulesets) definitions ∙ h.rulesets;
    runnable = subst (λ d. CanRun d.tables state.catalog.rules) (sym database) h.runnable;
  }

  pub opens-agrees : (tenant : ℕ) (records : List Record) (clock : ℕ) (index : List (List TableSets)) → Agrees tenant state old.database.transactions records clock index → Agrees tenant next old.database.transactions records clock index
  opens-agrees tenant records clock index a = record {
    transactions = λ o io. a.transactions o io ∙ sym (same-changes o);
    marks = λ o io rule. let was = a.marks o io rule in (was.0, was.1 ∙ sym (same-marks o rule));
    past = a.past;
    untriggered = a.untriggered;
    indexed = a.indexed;
  }

-- ---- a session closes

none-left : (x : Session) → has_transaction x ≡ false → (changes_of x ≡ [])
none-left closed e = refl
none-left idle e = refl
none-left (active changes marks) e = absurd (cc)

released-twice : (locks : Locks) (s o t : ℕ) (m : LockMode) → released (released locks s) s o t m ≡ released locks s o t m
released-twice locks s o t m = by (not (nat_eq o s))
  where
    by : (b : Bool) → (b && (b && locks o t m)) ≡ (b && locks o t m)
    by true = refl
    by false = refl

-- a session closed, without locks
abbrev pub closed_in : ℕ → State → State
closed_in s now = record (with_session now s closed) { locks = released now.locks s }

module _ (state : State) (s : ℕ) where
  ended-by : (b : Bool) → has_transaction (session_at state s) ≡ b → closed_in s (aborted state s) ≡ with_session (rolled_back state s) s closed
  ended-by true e = ap (closed_in s) (aborted-active state s e) ∙ (λ i. record {
    catalog = state.catalog;
    locks = λ o t m. released-twice state.locks s o t m i;
    sessions = λ o. cond (nat_eq o s) closed (session_at (rolled_back state s) o);
    steps = state.steps;
  })
  ended-by false e = ap (closed_in s) (aborted-none state s e) ∙ (λ i. record {
    catalog = state.catalog;
    locks = released state.locks s;
    sessions = λ o. by o (nat_eq o s) i;
    steps = state.steps;
  })
    where
      by : (o : ℕ) (b : Bool) → cond b closed (session_at state o) ≡ cond b closed (cond b idle (session_at state o))
      by o true = refl
      by o false = refl

  pub ended : closed_in s (aborted state s) ≡ with_session (rolled_back state s) s closed
  ended = ended-by (has_transaction (session_at state s)) refl

module _ (laws : TablesAreShared) (s : ℕ) (is : IsTrue (is_session s)) (old new : Store) (records : List Record) (clock : ℕ) (index : List (List TableSets)) (state : State) (origin : List Held) (h : Holds origin old state)
    (a : Agrees old.database.id state old.database.transactions records clock index) (c : IsCallOf s old new records records clock clock) where
  pub closes : (phase_at old.phases s ≡ Active → ⊥) → phase_at new.phases s ≡ Closed → new.database.tables ≡ old.database.tables → new.database.transactions ≡ old.database.transactions →
      ((o t : ℕ) (m : LockMode) → held new.database.locks o t m ≡ released (held old.database.locks) s o t m) → StandFor new records clock index (closed_in s state)
  closes was phase tables transactions held_after =
      let empty : changes_of (session_at state s) ≡ [] = none-left (session_at state s) (not-active (session_at state s) (λ e. was (h.phases s is ∙ e))) in
      stands-without laws s is old new records records clock clock index state (closed_in s state) origin h a c
      (record { sessions = λ o other. other_session state s closed o other; rules = refl; pairs = refl; rulesets = refl }) (ap changes_of (own_session state s closed))
      (λ rule. ap (λ (x : Session). marks_of x rule) (own_session state s closed)) refl (phase ∙ ap phase_of (sym (own_session state s closed)))
      (subst (λ t. ArePast t s clock) (sym transactions) (a.past s is)) empty c.id tables
      (ap (λ (id : ℕ). changes_by (who_of id s) records) c.id ∙ a.transactions s is ∙ empty) (λ o t m. held_after o t m ∙ ap (λ (b : Bool). not (nat_eq o s) && b) (h.locks o t m)) refl
