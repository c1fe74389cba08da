-- The calls on a session's transaction, each from what the database says of it.
use Rattle.std.proofs.Common.{◌≡◌, ◌∙◌, ◌⊎◌, inl, inr, ℕ, ◌<◌, ◌≤◌, Bool, true, false, not, ◌&&◌, cond, nat_eq, List, [], ◌∷◌, ◌++◌, length, Option, Some, None, Result, Ok, Err, refl, sym, ap, subst, true≢false, lt-ltb, IsTrue, arith}
use Rattle.std.proofs.lemmas.Bool.{eq-eqb}
use Rattle.sb_tenant.specs.declared.bound.Bound.{Bound}
use Rattle.sb_value.specs.declared.value.Value.{Value}
use Rattle.sb_value.specs.declared.change.Change.{Change}
use Rattle.sb_value.specs.declared.lock.LockMode.{LockMode}
use Rattle.sb_value.specs.declared.refusal.Refusal.{Refusal}
use Rattle.sb_value.specs.declared.refusal.Refusal.TheVariants.{Locked, NoMemory}
use Rattle.sb_value.specs.declared.refusal.Verdict.{Verdict}
use Rattle.sb_value.specs.Locks.{Locks, first_conflict, with_locks, released}
use Rattle.sb_value.specs.Table.{Entry, after, after_all, after_change, name_at}
use Rattle.sb_check.specs.Condition.{Query}
use Rattle.sb_check.specs.declared.tree.Statement.{Statement}
use Rattle.sb_rawlog.specs.Records.{Record}
use Rattle.sb_rawlog.specs.Sessions.{OthersStay as OtherRecordsStay}
use Rattle.sb_tables.specs.Held.{Held}
use Rattle.sb_locks.specs.Held.{held}
use Rattle.sb_index.specs.TableSets.{TableSets}
use Rattle.sb_eval.specs.Seen.{no_transition}
use Rattle.sb_eval.specs.Statement.{query_locks, statement_locks}
use Rattle.sb_process.specs.Consider.{statement_effect, select_within}
use Rattle.sb_process.specs.Made.{AreMade}
use Rattle.sb_process.specs.Process.{Processing, process, stands_after}
use Rattle.sb_process.specs.Represents.{Represents, EachTransaction, IsTransaction, IsTakenBack, IsKept, IsIdle, begun}
use Rattle.sb_process.specs.Request.{IsAnswer, after_request, Selects}
use Rattle.sb_process.specs.Setting.{Setting, Progress, seen_with}
use Rattle.sb_process.specs.Sharing.{TablesAreShared}
use Rattle.sb_process.specs.Statement.{effect_meant, with_effect_of, after_statement, counted, Runs}
use Rattle.sb_process.specs.Transactions.{mark_of, tested_of, is_candidate_of, ArePast, OtherSessionsStay}
use Rattle.sb_process.specs.Work.{IsWork, Processes, Stands}
use Rattle.sb_process.specs.declared.Processed.{Processed}
use Rattle.sb_process.specs.declared.database.Database.{Database}
use Rattle.sb_process.specs.declared.Outcome.{Outcome}
use Rattle.sb_process.specs.declared.Outcome.TheVariants.{Done, ByRule, ByError, ByLimit}
use Rattle.sb_process.specs.Running.{is_done}
use Rattle.sb_tenant.specs.declared.phase.Phase.{Phase}
use Rattle.sb_tenant.specs.declared.phase.Phase.TheVariants.{Idle, Active}
use Rattle.sb_tenant.specs.declared.reply.Reply.{Reply}
use Rattle.sb_tenant.specs.declared.reply.Reply.TheVariants as reply
use Rattle.sb_tenant.specs.declared.processing.Finish.{Finish}
use Rattle.sb_tenant.specs.declared.processing.Finish.TheVariants.{Commit, GoOn}
use Rattle.sb_tenant.specs.declared.store.Ending.{Ending}
use Rattle.sb_tenant.specs.declared.store.Ending.TheVariants.{Keep, TakeBack}
use Rattle.sb_tenant.specs.declared.store.Store.{Store}
use Rattle.sb_tenant.specs.Limits.{is_session}
use Rattle.sb_tenant.specs.Ending.{concluded, finished, IsConcluded}
use Rattle.sb_tenant.specs.Logged.{Agrees, who_of}
use Rattle.sb_tenant.specs.Perform.{reply_rows, change_seen, perform, process_at, stands_as, stays}
use Rattle.sb_tenant.specs.Represents.{phase_of, phase_at, AreExclusive, Finds, Holds, StandFor, StandAside, Comes}
use Rattle.sb_tenant.specs.Resolved.{query, change}
use Rattle.sb_tenant.specs.State.{State, Session, closed, idle, active, session_at, has_transaction, changes_of, marks_of, setting_of, progress_of, with_progress, rolled_back, committed, with_session}
use Rattle.sb_tenant.specs.Trail.{aborted}
use Rattle.sb_tenant.proofs.Leaving.{work-of}
use Rattle.sb_tenant.proofs.Moves.{stands-with, stands-back, stands-kept}
use Rattle.sb_tenant.proofs.SessionLaws.{own_session, other_session}
use Rattle.sb_tenant.proofs.Standing.{others_of, base_of, one-session, IsCallOf, IsStateAfter}
use Rattle.sb_tenant.proofs.Taking.{Taken, taken-none, taken-request, process-takes}

-- a session's number
pub number-below : (s n : ℕ) → n ≡ s → n < 8 → IsTrue (is_session s)
number-below s n e h = subst (λ (k : ℕ). IsTrue (is_session k)) e (lt-ltb n 8 h)

-- ---- phases

same-session : (s : ℕ) → nat_eq s s ≡ true
same-session s = eq-eqb s s refl

pub set-other : (old new : List Phase) (s : ℕ) (phase : Phase) → ((o : ℕ) → phase_at new o ≡ cond (nat_eq o s) phase (phase_at old o)) → (o : ℕ) → nat_eq o s ≡ false → phase_at new o ≡ phase_at old o
set-other old new s phase set o other = set o ∙ ap (λ (b : Bool). cond b phase (phase_at old o)) other

pub set-own : (old new : List Phase) (s : ℕ) (phase : Phase) → ((o : ℕ) → phase_at new o ≡ cond (nat_eq o s) phase (phase_at old o)) → phase_at new s ≡ phase
set-own old new s phase set = set s ∙ ap (λ (b : Bool). cond b phase (phase_at old s)) (same-session s)

pub is-active : (x : Session) → phase_of x ≡ Active → x ≡ active (changes_of x) (marks_of x)
is-active closed e = absurd (cc)
is-active idle e = absurd (cc)
is-active (active changes marks) e = refl

pub has-active : (x : Session) → phase_of x ≡ Active → has_transaction x ≡ true
has-active closed e = absurd (cc)
has-active idle e = absurd (cc)
has-active (active changes marks) e = refl

pub not-active : (x : Session) → (phase_of x ≡ Active → ⊥) → has_transaction x ≡ false
not-active closed e = refl
not-active idle e = refl
not-active (active changes marks) e = absurd (e refl)

none-idle : (x : Session) → phase_of x ≡ Idle → changes_of x ≡ []
none-idle closed e = absurd (cc)
none-idle idle e = refl
none-idle (active changes marks) e = absurd (cc)

-- ---- a transaction taken back

pub aborted-active : (state : State) (s : ℕ) → has_transaction (session_at state s) ≡ true → aborted state s ≡ rolled_back state s
aborted-active state s e = λ i. elim (e i) as (λ _. State) [ true ↦ rolled_back state s | false ↦ state ]

pub aborted-none : (state : State) (s : ℕ) → has_transaction (session_at state s) ≡ false → aborted state s ≡ state
aborted-none state s e = λ i. elim (e i) as (λ _. State) [ true ↦ rolled_back state s | false ↦ state ]

released-same : (s : ℕ) (old new : Locks) → Taken s old new → (o t : ℕ) (m : LockMode) → released new s o t m ≡ released old s o t m
released-same s old new k o t m = by (nat_eq o s) refl
  where
    by : (b : Bool) → nat_eq o s ≡ b → (not b && new o t m) ≡ (not b && old o t m)
    by true e = refl
    by false e = k.others o t m e

-- what the transaction did in between makes no difference
rolled-same : (state : State) (s : ℕ) (p : Progress) → Taken s state.locks p.locks → rolled_back (with_progress state s p) s ≡ rolled_back state s
rolled-same state s p k = λ i. record {
  catalog = state.catalog;
  locks = λ o t m. released-same s state.locks p.locks k o t m i;
  sessions = λ o. by o (nat_eq o s) i;
  steps = state.steps;
}
  where
    by : (o : ℕ) (b : Bool) → cond b idle (cond b (active p.changes p.marks) (session_at state o)) ≡ cond b idle (session_at state o)
    by o true = refl
    by o false = refl

-- ---- names

name-after : (c : Change) (tables : List Entry) (t : ℕ) → name_at (after c tables) t ≡ name_at tables t
name-after c [] t = refl
name-after c (e ∷ tables) t = by (nat_eq e.id c.table) (name-after c tables t)
  where
    by : (b : Bool) → name_at (after c tables) t ≡ name_at tables t →
        cond (nat_eq (cond b (record e { table = after_change c e.table }) e).id t) (cond b (record e { table = after_change c e.table }) e).name (name_at (after c tables) t) ≡ cond (nat_eq e.id t) e.name (name_at tables t)
    by true rest = ap (cond (nat_eq e.id t) e.name) rest
    by false rest = ap (cond (nat_eq e.id t) e.name) rest

name-after_all : (cs : List Change) (tables : List Entry) (t : ℕ) → name_at (after_all cs tables) t ≡ name_at tables t
name-after_all [] tables t = refl
name-after_all (c ∷ cs) tables t = name-after_all cs (after c tables) t ∙ name-after c tables t

-- ---- answers

abbrev as_reply : {A : Type 0} → (A → Reply) → Result A Refusal → Reply
as_reply form (Ok x) = form x
as_reply form (Err refusal) = reply.No refusal

-- an answer that is meant, with what stands then
comes-meant : {A : Type 0} (form : A → Reply) (stands : State → Type 0) (meant : State × Reply) (r result : Result A Refusal) → result ≡ r → meant.1 ≡ as_reply form r → stands meant.0 → Comes form stands meant result
comes-meant form stands meant (Ok x) result e m h = subst (Comes form stands meant) (sym e) (m, h)
comes-meant form stands meant (Err f) result e m h = subst (Comes form stands meant) (sym e) (inl (m, h))

comes-memory : {A : Type 0} (form : A → Reply) (stands : State → Type 0) (meant : State × Reply) (result : Result A Refusal) → result ≡ Err NoMemory → Comes form stands meant result
comes-memory form stands meant result e = subst (Comes form stands meant) (sym e) (inr refl)

-- ---- the calls

-- what the database says of a call on a session, with the phases as they then are
pub called : {s : ℕ} (old : Store) (database : Database) (phases : List Phase) {earlier after : List Record} {clock later : ℕ} → database.id ≡ old.database.id → OtherRecordsStay (who_of old.database.id s) earlier after → clock ≤ later →
    OtherSessionsStay old.database.transactions database.transactions s → ((o : ℕ) → nat_eq o s ≡ false → phase_at phases o ≡ phase_at old.phases o) → IsCallOf s old (record old { database = database; phases = phases }) earlier after clock later
called old database phases id records times transactions others = record { id = id; records = records; times = times; transactions = transactions; phases = others; definitions = refl }

-- the session's transaction
module _ {s : ℕ} {store : Store} {records : List Record} {clock : ℕ} {index : List (List TableSets)} {state : State} (laws : TablesAreShared) (is : IsTrue (is_session s)) (st : StandFor store records clock index state) where
  pub session-of : Represents (base_of st.0.0 state s) store.database s records clock (setting_of store.database.id state s) (progress_of store.database.left state s)
  session-of = one-session laws st.0.0 store state st.0.1 s is records clock index st.1

  pub transaction-of : IsTransaction store.database s records clock
  transaction-of = (base_of st.0.0 state s, setting_of store.database.id state s, progress_of store.database.left state s, session-of)

  pub works-in : IsWork (base_of st.0.0 state s) store.database s records clock index store.definitions.rules store.definitions.order (setting_of store.database.id state s) (progress_of store.database.left state s)
  works-in = work-of laws st.0.0 store state st.0.1 s is records clock index st.1

module _ {s : ℕ} {old new : Store} {earlier after : List Record} {clock later : ℕ} {index : List (List TableSets)} {state : State} {origin : List Held} (laws : TablesAreShared) (is : IsTrue (is_session s)) (h : Holds origin old state)
    (a : Agrees old.database.id state old.database.transactions earlier clock index) (c : IsCallOf s old new earlier after clock later) where
  abbrev base : List Held
  base = base_of origin state s

  abbrev setting : Setting
  setting = setting_of old.database.id state s

  abbrev progress : Progress
  progress = progress_of old.database.left state s

  pub before : Represents base old.database s earlier clock setting progress
  before = one-session laws origin old state h s is earlier clock index a

  -- a state that differs in the session and in the locks
  after-session : (session : Session) (locks : Locks) → IsStateAfter s state (record (with_session state s session) { locks = locks })
  after-session session locks = record { sessions = λ o other. other_session state s session o other; rules = refl; pairs = refl; rulesets = refl }

  -- a transaction begins
  pub begins : phase_at old.phases s ≡ Idle → phase_at new.phases s ≡ Active → (IsIdle base old.database s earlier setting → Represents base new.database s after later setting (begun (held old.database.locks) old.database.left)) →
      StandFor new after later index (with_session state s (active [] (λ id. 0)))
  begins was phase begin =
      let none : changes_of (session_at state s) ≡ [] = none-idle (session_at state s) (sym (h.phases s is) ∙ was) in
      let same : state.locks ≡ held old.database.locks = λ i o t m. sym (h.locks o t m) i in
      stands-with laws s is old new earlier after clock later index state (with_session state s (active [] (λ id. 0))) origin h a c (after-session (active [] (λ id. 0)) state.locks) (begun (held old.database.locks) old.database.left)
      (own_session state s (active [] (λ id. 0))) same (record { others = λ o t m other. h.locks o t m; exclusive = subst AreExclusive same h.exclusive }) phase
      (begin (record { who = refl; none = before.changes ∙ none; base = before.base; made = subst (λ cs. AreMade base cs old.database.tables) none before.made })) refl

  -- it is taken back
  pub goes-back : phase_at new.phases s ≡ Idle → ArePast new.database.transactions s later → IsTakenBack base old.database new.database s after setting progress → StandFor new after later index (rolled_back state s)
  goes-back phase past b =
      stands-back laws s is old new earlier after clock later index state (rolled_back state s) origin h a c (after-session idle (released state.locks s)) (ap changes_of (own_session state s idle))
      (λ rule. ap (λ x. marks_of x rule) (own_session state s idle)) refl (phase ∙ ap phase_of (sym (own_session state s idle))) past old.database b refl

  -- or kept
  pub goes-in : phase_at new.phases s ≡ Idle → ArePast new.database.transactions s later → IsKept old.database new.database s after setting progress → StandFor new after later index (committed state s)
  goes-in phase past b =
      stands-kept laws s is old new earlier after clock later index state (committed state s) origin h a c (record { sessions = λ o other. other_session state s idle o other; rules = refl; pairs = refl; rulesets = refl })
      (ap changes_of (own_session state s idle)) (λ rule. ap (λ x. marks_of x rule) (own_session state s idle)) refl (phase ∙ ap phase_of (sym (own_session state s idle))) past b refl

  -- it goes on
  module _ (was : phase_at old.phases s ≡ Active) where
    now-active : session_at state s ≡ active (changes_of (session_at state s)) (marks_of (session_at state s))
    now-active = is-active (session_at state s) (sym (h.phases s is) ∙ was)

    has-one : has_transaction (session_at state s) ≡ true
    has-one = ap has_transaction now-active

    pub back-aside : StandFor new after later index (rolled_back state s) → StandAside new after later index state s
    back-aside stands = (rolled_back state s, stands, aborted-none (rolled_back state s) s (ap has_transaction (own_session state s idle)) ∙ sym (aborted-active state s has-one))

    module _ (phase : phase_at new.phases s ≡ Active) where
      pub goes-with : (p : Progress) → Taken s state.locks p.locks → Represents base new.database s after later setting p → StandFor new after later index (with_progress state s p)
      goes-with p k r =
          stands-with laws s is old new earlier after clock later index state (with_progress state s p) origin h a c (after-session (active p.changes p.marks) p.locks) p
          (own_session state s (active p.changes p.marks)) refl k phase r refl

      goes-same : Represents base new.database s after later setting progress → StandFor new after later index state
      goes-same r =
          stands-with laws s is old new earlier after clock later index state state origin h a c (record { sessions = λ o other. refl; rules = refl; pairs = refl; rulesets = refl }) progress
          now-active refl (taken-none s state.locks h.exclusive) phase r refl

      pub aside : (p : Progress) → Taken s state.locks p.locks → Represents base new.database s after later setting p → StandAside new after later index state s
      aside p k r = (
        with_progress state s p,
        goes-with p k r,
        aborted-active (with_progress state s p) s (ap has_transaction (own_session state s (active p.changes p.marks))) ∙ rolled-same state s p k ∙ sym (aborted-active state s has-one),
      )

      taken-after : (list : List (ℕ × LockMode)) → Taken s state.locks (after_request setting list progress).locks
      taken-after list = by (first_conflict state.locks s list) refl
        where
          by : (o : Option ℕ) → first_conflict state.locks s list ≡ o → Taken s state.locks (elim o as (λ _. Progress) [ Some t ↦ progress | None ↦ record progress { locks = with_locks state.locks s list } ]).locks
          by (Some t) e = taken-none s state.locks h.exclusive
          by None e = taken-request s state.locks state.locks list e (taken-none s state.locks h.exclusive)

      taken-granted : (list : List (ℕ × LockMode)) → first_conflict state.locks s list ≡ None → Taken s state.locks (with_locks state.locks s list)
      taken-granted list e = taken-request s state.locks state.locks list e (taken-none s state.locks h.exclusive)

      -- ---- a select

      rows-meant : (r : Result (List (List Value)) Refusal) → reply_rows r ≡ as_reply reply.Rows r
      rows-meant (Ok rows) = refl
      rows-meant (Err f) = refl

      comes-answer : {A : Type 0} (form : A → Reply) (meant : State × Reply) (r result : Result A Refusal) (S T : Type 0) → IsAnswer r result → S ⊎ ((result ≡ Err NoMemory) × T) → meant.1 ≡ as_reply form r →
          (S → StandFor new after later index meant.0) → Comes form (StandFor new after later index) meant result
      comes-answer form meant r result S T (inl e) (inl x) m f = comes-meant form (StandFor new after later index) meant r result e m (f x)
      comes-answer form meant r result S T (inl e) (inr x) m f = comes-memory form (StandFor new after later index) meant result x.0
      comes-answer form meant r result S T (inr e) x m f = comes-memory form (StandFor new after later index) meant result e

      -- with what is left of the budget as the step's
      abbrev bound_here : ℕ → Bound
      bound_here considerations = record { considerations = considerations; work = old.database.left }

      pub selects : (considerations : ℕ) (q : Query) (result : Result (List (List Value)) Refusal) → Selects base new.database s q result after later setting progress →
          Comes reply.Rows (StandFor new after later index) (perform old.database.id (bound_here considerations) state s (query q)) result
      selects considerations q result k = by (first_conflict state.locks s (query_locks q)) refl k.answer k.stands
        where
          by : (o : Option ℕ) → first_conflict state.locks s (query_locks q) ≡ o →
              IsAnswer (elim o as (λ _. Result (List (List Value)) Refusal) [ Some t ↦ Err (Locked (name_at setting.base t)) | None ↦ select_within (seen_with setting no_transition (record progress { locks = with_locks state.locks s (query_locks q) })) q old.database.left ]) result →
              Represents base new.database s after later setting (elim o as (λ _. Progress) [ Some t ↦ progress | None ↦ record progress { locks = with_locks state.locks s (query_locks q) } ])
              ⊎ ((result ≡ Err NoMemory) × Represents base new.database s after later setting progress) →
              Comes reply.Rows (StandFor new after later index)
              (elim o as (λ _. State × Reply) [
                | Some t ↦ (state, reply.No (Locked (name_at state.catalog.tables t)))
                | None ↦ (
                  with_progress state s (record progress { locks = with_locks state.locks s (query_locks q) }),
                  reply_rows (select_within (seen_with setting no_transition (record progress { locks = with_locks state.locks s (query_locks q) })) q old.database.left),
                )
              ])
              result
          by (Some t) e answer stands =
              comes-answer reply.Rows (state, reply.No (Locked (name_at state.catalog.tables t))) (Err (Locked (name_at setting.base t))) result _ _ answer stands
              (ap (λ (n : List ℕ). reply.No (Locked n)) (sym (name-after_all (others_of state s) state.catalog.tables t))) goes-same
          by None e answer stands =
              comes-answer reply.Rows _ (select_within (seen_with setting no_transition (record progress { locks = with_locks state.locks s (query_locks q) })) q old.database.left) result _ _ answer stands
              (rows-meant (select_within (seen_with setting no_transition (record progress { locks = with_locks state.locks s (query_locks q) })) q old.database.left))
              (goes-with (record progress { locks = with_locks state.locks s (query_locks q) }) (taken-granted (query_locks q) e))

      pub selects-aside : (q : Query) (result : Result (List (List Value)) Refusal) → Selects base new.database s q result after later setting progress → StandAside new after later index state s
      selects-aside q result k = by k.stands
        where
          by : Represents base new.database s after later setting (after_request setting (query_locks q) progress) ⊎ ((result ≡ Err NoMemory) × Represents base new.database s after later setting progress) → StandAside new after later index state s
          by (inl r) = aside (after_request setting (query_locks q) progress) (taken-after (query_locks q)) r
          by (inr r) = aside progress (taken-none s state.locks h.exclusive) r.1

      -- ---- a change

      counts-seen : (p : Progress) → Taken s state.locks p.locks → (meant : Result (List Change × Option ℕ) Refusal) (result : Result ℕ Refusal) → result ≡ counted meant →
          Represents base new.database s after later setting (with_effect_of meant p) → Comes reply.Count (StandFor new after later index) (change_seen state s p meant) result
      counts-seen p k (Err f) result e r = comes-meant reply.Count (StandFor new after later index) (with_progress state s p, reply.No f) (Err f) result e refl (goes-with p k r)
      counts-seen p k (Ok effect) result e r =
          comes-meant reply.Count (StandFor new after later index) (with_progress state s (record p { changes = p.changes ++ effect.0 }), reply.Count (length effect.0)) (Ok (length effect.0)) result e refl
          (goes-with (record p { changes = p.changes ++ effect.0; left = effect.1 }) k r)

      pub counts : (considerations : ℕ) (statement : Statement) (result : Result ℕ Refusal) → Runs base new.database s no_transition statement result after later setting progress →
          Comes reply.Count (StandFor new after later index) (perform old.database.id (bound_here considerations) state s (change statement)) result
      counts considerations statement result (inr k) = comes-memory reply.Count (StandFor new after later index) (perform old.database.id (bound_here considerations) state s (change statement)) result k.0
      counts considerations statement result (inl k) = by (first_conflict state.locks s (statement_locks statement)) refl k.0 k.1
        where
          by : (o : Option ℕ) → first_conflict state.locks s (statement_locks statement) ≡ o →
              result ≡ counted (elim o as (λ _. Result (List Change × Option ℕ) Refusal) [
                | Some t ↦ Err (Locked (name_at setting.base t))
                | None ↦ statement_effect setting no_transition statement (record progress { locks = with_locks state.locks s (statement_locks statement) })
              ]) →
              Represents base new.database s after later setting
              (with_effect_of
              (elim o as (λ _. Result (List Change × Option ℕ) Refusal) [
                | Some t ↦ Err (Locked (name_at setting.base t))
                | None ↦ statement_effect setting no_transition statement (record progress { locks = with_locks state.locks s (statement_locks statement) })
              ])
              (elim o as (λ _. Progress) [ Some t ↦ progress | None ↦ record progress { locks = with_locks state.locks s (statement_locks statement) } ])) →
              Comes reply.Count (StandFor new after later index)
              (elim o as (λ _. State × Reply) [
                | Some t ↦ (state, reply.No (Locked (name_at state.catalog.tables t)))
                | None ↦ change_seen state s (record progress { locks = with_locks state.locks s (statement_locks statement) })
                    (statement_effect setting no_transition statement (record progress { locks = with_locks state.locks s (statement_locks statement) }))
              ])
              result
          by (Some t) e is r =
              comes-meant reply.Count (StandFor new after later index) (state, reply.No (Locked (name_at state.catalog.tables t))) (Err (Locked (name_at setting.base t))) result is
              (ap (λ (n : List ℕ). reply.No (Locked n)) (sym (name-after_all (others_of state s) state.catalog.tables t))) (goes-same r)
          by None e is r =
              counts-seen (record progress { locks = with_locks state.locks s (statement_locks statement) }) (taken-granted (statement_locks statement) e)
              (statement_effect setting no_transition statement (record progress { locks = with_locks state.locks s (statement_locks statement) })) result is r

      taken-changes : (meant : Result (List Change × Option ℕ) Refusal) (p : Progress) → Taken s state.locks p.locks → Taken s state.locks (with_effect_of meant p).locks
      taken-changes (Ok effect) p k = k
      taken-changes (Err f) p k = k

      pub counts-aside : (statement : Statement) (result : Result ℕ Refusal) → Runs base new.database s no_transition statement result after later setting progress → StandAside new after later index state s
      counts-aside statement result (inl k) =
          aside (after_statement setting no_transition statement progress)
          (taken-changes (effect_meant setting no_transition statement progress) (after_request setting (statement_locks statement) progress) (taken-after (statement_locks statement))) k.1
      counts-aside statement result (inr k) = by k.1
        where
          by : Represents base new.database s after later setting (after_request setting (statement_locks statement) progress) ⊎ Represents base new.database s after later setting progress → StandAside new after later index state s
          by (inl r) = aside (after_request setting (statement_locks statement) progress) (taken-after (statement_locks statement)) r
          by (inr r) = aside progress (taken-none s state.locks h.exclusive) r

    -- ---- an assertion point

    module _ (o : Outcome) (p : Progress) (k : Taken s state.locks p.locks) where
      -- where it is done the transaction goes on
      pub done-stands : is_done o ≡ true → phase_at new.phases s ≡ Active → Stands base old.database new.database s after later setting progress (stands_after o p) →
          StandFor new after later index (stands_as state s stays (stands_after o p)) × StandAside new after later index state s
      done-stands done phase stands = by o done stands
        where
          by : (o : Outcome) → is_done o ≡ true → Stands base old.database new.database s after later setting progress (stands_after o p) →
              StandFor new after later index (stands_as state s stays (stands_after o p)) × StandAside new after later index state s
          by Done e r = (goes-with phase p k r, aside phase p k r)
          by (ByRule rule) e r = absurd (true≢false (sym e))
          by (ByError rule f) e r = absurd (true≢false (sym e))
          by ByLimit e r = absurd (true≢false (sym e))

      -- and else it is taken back
      pub back-stands : is_done o ≡ false → phase_at new.phases s ≡ Idle → ArePast new.database.transactions s later → Stands base old.database new.database s after later setting progress (stands_after o p) →
          StandFor new after later index (stands_as state s stays (stands_after o p)) × StandAside new after later index state s
      back-stands back phase past stands = by o back stands
        where
          by : (o : Outcome) → is_done o ≡ false → Stands base old.database new.database s after later setting progress (stands_after o p) →
              StandFor new after later index (stands_as state s stays (stands_after o p)) × StandAside new after later index state s
          by Done e r = absurd (true≢false e)
          by (ByRule rule) e r = (goes-back phase past r, back-aside (goes-back phase past r))
          by (ByError rule f) e r = (goes-back phase past r, back-aside (goes-back phase past r))
          by ByLimit e r = (goes-back phase past r, back-aside (goes-back phase past r))

-- what it says of a call that takes locks alone
locks-alone : {s : ℕ} (old : Store) (database : Database) {records : List Record} {clock : ℕ} → database ≡ record old.database { locks = database.locks } → IsCallOf s old (record old { database = database }) records records clock clock
locks-alone old database only =
    called old database old.phases (ap (λ (d : Database). d.id) only) (λ other differs. refl) (omega arith)
    (λ o r other. (ap (λ (d : Database). mark_of d.transactions o r) only, ap (λ (d : Database). tested_of d.transactions o r) only, ap (λ (d : Database). is_candidate_of d.transactions o r) only)) (λ o other. refl)

module _ {s : ℕ} {old : Store} {database : Database} {records : List Record} {clock : ℕ} {index : List (List TableSets)} {state : State} (laws : TablesAreShared) (is : IsTrue (is_session s)) (st : StandFor old records clock index state)
    (only : database ≡ record old.database { locks = database.locks }) (was : phase_at old.phases s ≡ Active) {q : Query} {result : Result (List (List Value)) Refusal}
    (k : EachTransaction old.database s records clock (λ origin setting progress. Selects origin database s q result records clock setting progress)) where
  selected : Selects (base_of st.0.0 state s) database s q result records clock (setting_of old.database.id state s) (progress_of old.database.left state s)
  selected = k (base_of st.0.0 state s) (setting_of old.database.id state s) (progress_of old.database.left state s) (session-of laws is st)

  pub rows-come : (bound : Bound) → old.database.left ≡ bound.work → Comes reply.Rows (StandFor (record old { database = database }) records clock index) (perform old.database.id bound state s (query q)) result
  rows-come bound left =
      subst (λ (l : Option ℕ). Comes reply.Rows (StandFor (record old { database = database }) records clock index) (perform old.database.id (record { considerations = bound.considerations; work = l }) state s (query q)) result) left
      (selects laws is st.0.1 st.1 (locks-alone old database only) was was bound.considerations q result selected)

  pub rows-aside : StandAside (record old { database = database }) records clock index state s
  rows-aside = selects-aside laws is st.0.1 st.1 (locks-alone old database only) was was q result selected

-- what it says of a statement
module _ {s : ℕ} {old new : Store} {earlier after : List Record} {clock later : ℕ} {index : List (List TableSets)} {state : State} (laws : TablesAreShared) (is : IsTrue (is_session s)) (st : StandFor old earlier clock index state)
    (c : IsCallOf s old new earlier after clock later) (was : phase_at old.phases s ≡ Active) (phase : phase_at new.phases s ≡ Active) (statement : Statement) {result : Result ℕ Refusal}
    (k : (origin : List Held) (setting : Setting) (progress : Progress) → IsWork origin old.database s earlier clock index old.definitions.rules old.definitions.order setting progress → Runs origin new.database s no_transition statement result after later setting progress) where
  ran : Runs (base_of st.0.0 state s) new.database s no_transition statement result after later (setting_of old.database.id state s) (progress_of old.database.left state s)
  ran = k (base_of st.0.0 state s) (setting_of old.database.id state s) (progress_of old.database.left state s) (works-in laws is st)

  pub count-comes : (bound : Bound) → old.database.left ≡ bound.work → Comes reply.Count (StandFor new after later index) (perform old.database.id bound state s (change statement)) result
  count-comes bound left =
      subst (λ (l : Option ℕ). Comes reply.Count (StandFor new after later index) (perform old.database.id (record { considerations = bound.considerations; work = l }) state s (change statement)) result) left
      (counts laws is st.0.1 st.1 c was phase bound.considerations statement result ran)

  pub count-aside : StandAside new after later index state s
  count-aside = counts-aside laws is st.0.1 st.1 c was phase statement result ran

processing-takes : (tenant : ℕ) {s : ℕ} (state : State) (considerations : ℕ) (left : Option ℕ) (eligible : ℕ → Bool) → AreExclusive state.locks → Taken s state.locks (process considerations (setting_of tenant state s) eligible (progress_of left state s)).progress.locks
processing-takes tenant {s} state considerations left eligible exclusive = process-takes (setting_of tenant state s) state.locks considerations eligible (progress_of left state s) (taken-none s state.locks exclusive)

-- what the database says of an assertion point
module _ {s : ℕ} {old new : Store} {earlier after : List Record} {clock later : ℕ} {index : List (List TableSets)} {state : State} (laws : TablesAreShared) (is : IsTrue (is_session s)) (st : StandFor old earlier clock index state)
    (c : IsCallOf s old new earlier after clock later) (was : phase_at old.phases s ≡ Active) (considerations : ℕ) (eligible : ℕ → Bool) {o : Outcome} {verdicts : List (ℕ × Verdict)}
    (k : Processes (base_of st.0.0 state s) old.database new.database s o verdicts after later (setting_of old.database.id state s) (progress_of old.database.left state s) (process considerations (setting_of old.database.id state s) eligible (progress_of old.database.left state s))) where
  pub processed-done : is_done o ≡ true → phase_at new.phases s ≡ Active → StandFor new after later index (process_at old.database.id (record { considerations = considerations; work = old.database.left }) state s eligible stays).0 × StandAside new after later index state s
  processed-done done phase =
      let meant : Processing = process considerations (setting_of old.database.id state s) eligible (progress_of old.database.left state s) in
      done-stands laws is st.0.1 st.1 c was meant.outcome meant.progress (processing-takes old.database.id state considerations old.database.left eligible st.0.1.exclusive) (sym (ap is_done k.outcome) ∙ done) phase k.stands

  pub processed-back : is_done o ≡ false → phase_at new.phases s ≡ Idle → ArePast new.database.transactions s later → StandFor new after later index (process_at old.database.id (record { considerations = considerations; work = old.database.left }) state s eligible stays).0 × StandAside new after later index state s
  processed-back back phase past =
      let meant : Processing = process considerations (setting_of old.database.id state s) eligible (progress_of old.database.left state s) in
      back-stands laws is st.0.1 st.1 c was meant.outcome meant.progress (processing-takes old.database.id state considerations old.database.left eligible st.0.1.exclusive) (sym (ap is_done k.outcome) ∙ back) phase past k.stands

  -- the same is found with equal flags
  pub finds-with : {chosen : ℕ → Bool} (found : Processed) → found.outcome ≡ o → found.trace ≡ verdicts → ((id : ℕ) → eligible id ≡ chosen id) → StandFor new after later index (process_at old.database.id (record { considerations = considerations; work = old.database.left }) state s eligible stays).0 →
      Finds old.database.id new after later index state s (record { considerations = considerations; work = old.database.left }) chosen found
  finds-with found outcome trace flags stands =
      subst (λ (f : ℕ → Bool). Finds old.database.id new after later index state s (record { considerations = considerations; work = old.database.left }) f found) (λ i id. flags id i) (record { outcome = outcome ∙ k.outcome; trace = trace ∙ k.trace; stands = stands })

-- ---- the end of a transaction

-- kept or taken back
module _ {s : ℕ} {old : Store} (database : Database) (phases : List Phase) {earlier : List Record} (after : List Record) {clock later : ℕ} {index : List (List TableSets)} {state : State} (laws : TablesAreShared) (is : IsTrue (is_session s)) (st : StandFor old earlier clock index state)
    (others : OtherRecordsStay (who_of old.database.id s) earlier after) (still : later ≡ clock) (set : (o : ℕ) → phase_at phases o ≡ cond (nat_eq o s) Idle (phase_at old.phases o)) (same : database.transactions ≡ old.database.transactions) where
  past : ArePast database.transactions s later
  past = λ rule. rw (same, still) (st.1.past s is rule)

  call : database.id ≡ old.database.id → OtherSessionsStay old.database.transactions database.transactions s → IsCallOf s old (record old { database = database; phases = phases }) earlier after clock later
  call id sessions = called old database phases id others (omega (arith, still)) sessions (set-other old.phases phases s Idle set)

  pub concludes : (ending : Ending) → IsConcluded ending (base_of st.0.0 state s) old.database database s after (setting_of old.database.id state s) (progress_of old.database.left state s) → StandFor (record old { database = database; phases = phases }) after later index (concluded ending state s)
  concludes Keep b = goes-in laws is st.0.1 st.1 (call b.id b.sessions) (set-own old.phases phases s Idle set) past b
  concludes TakeBack b = goes-back laws is st.0.1 st.1 (call b.id b.sessions) (set-own old.phases phases s Idle set) past b

pub concluded-id : (ending : Ending) (origin : List Held) (old new : Database) (s : ℕ) (records : List Record) (setting : Setting) (progress : Progress) → IsConcluded ending origin old new s records setting progress → new.id ≡ old.id
concluded-id Keep origin old new s records setting progress b = b.id
concluded-id TakeBack origin old new s records setting progress b = b.id

-- ---- where no rule is left

module _ (state : State) (s : ℕ) where
  pub commits : (f : Finish) → f ≡ Commit → (o : Outcome) (p : Progress) → is_done o ≡ true → committed (stands_as state s stays (stands_after o p)) s ≡ stands_as state s (finished f s) (stands_after o p)
  commits f is o p e = by o e ∙ ap (λ (x : Finish). stands_as state s (finished x s) (stands_after o p)) (sym is)
    where
      by : (o : Outcome) → is_done o ≡ true → committed (stands_as state s stays (stands_after o p)) s ≡ stands_as state s (finished Commit s) (stands_after o p)
      by Done e = refl
      by (ByRule rule) e = absurd (true≢false (sym e))
      by (ByError rule g) e = absurd (true≢false (sym e))
      by ByLimit e = absurd (true≢false (sym e))

  pub commits-not : (f : Finish) (o : Outcome) (p : Progress) → is_done o ≡ false → stands_as state s stays (stands_after o p) ≡ stands_as state s (finished f s) (stands_after o p)
  commits-not f Done p e = absurd (true≢false e)
  commits-not f (ByRule rule) p e = refl
  commits-not f (ByError rule g) p e = refl
  commits-not f ByLimit p e = refl

  pub goes-on : (f : Finish) → f ≡ GoOn → (o : Outcome) (p : Progress) → stands_as state s stays (stands_after o p) ≡ stands_as state s (finished f s) (stands_after o p)
  goes-on f is o p = ap (λ (x : Finish). stands_as state s (finished x s) (stands_after o p)) (sym is)
