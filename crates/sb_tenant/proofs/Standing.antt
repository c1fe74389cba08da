-- What stands for a state, session by session.
use Rattle.std.proofs.Common.{◌≡◌, ◌∙◌, ◌≢◌, ℕ, ◌≤◌, Bool, true, false, nat_eq, List, [], ◌∷◌, ◌++◌, Option, Some, None, drop, length, refl, sym, ap, subst, eqb-true, true≢false, arith, IsTrue, filter, nat_le, nat_lt, ◌&&◌}
use Rattle.std.specs.List.{flat_map}
use Rattle.std.proofs.lemmas.Bool.{eq-eqb}
use Rattle.sb_value.specs.declared.change.Change.{Change}
use Rattle.sb_value.specs.declared.id.Who.{Who}
use Rattle.sb_value.specs.declared.lock.LockMode.{LockMode}
use Rattle.sb_value.specs.declared.lock.LockMode.TheVariants.{Write}
use Rattle.sb_value.specs.Locks.{Locks, sessions}
use Rattle.sb_value.specs.NetEffect.{is_triggered}
use Rattle.sb_value.specs.Table.{after_all}
use Rattle.sb_check.specs.Condition.{Query}
use Rattle.sb_check.specs.declared.tree.Action.{Action}
use Rattle.sb_check.specs.declared.tree.Action.TheVariants as action
use Rattle.sb_rawlog.specs.Records.{Record, before}
use Rattle.sb_rawlog.specs.Sessions.{changes, changes_by, mark_at, OthersStay as OtherRecordsStay, changes_between}
use Rattle.sb_tables.specs.Held.{Held, entries, has_number}
use Rattle.sb_locks.specs.Held.{held}
use Rattle.sb_index.specs.TableSets.{TableSets}
use Rattle.sb_eval.specs.Statement.{query_locks, statement_locks}
use Rattle.sb_catalog.specs.Definitions.{AreIndexed, AreOrdered}
use Rattle.sb_catalog.specs.declared.definitions.Definitions.{Definitions}
use Rattle.sb_catalog.specs.declared.rule.Rule.{Rule}
use Rattle.sb_process.specs.Made.{AreMade, tables_after_all}
use Rattle.sb_process.specs.Represents.{Represents, AreCandidates, AreUntriggered, AreLocked}
use Rattle.sb_process.specs.Request.{AreThere}
use Rattle.sb_process.specs.Setting.{Progress}
use Rattle.sb_process.specs.Sharing.{TablesAreShared}
use Rattle.sb_process.specs.Transactions.{Kept, mark_of, tested_of, is_candidate_of, ArePast, OtherSessionsStay}
use Rattle.sb_process.specs.Work.{IsConditionThere, AreActionsThere, CanRun}
use Rattle.sb_tenant.specs.declared.store.Store.{Store}
use Rattle.sb_tenant.specs.Limits.{is_session}
use Rattle.sb_tenant.specs.Logged.{Agrees, StandsFor, who_of}
use Rattle.sb_tenant.specs.Represents.{phase_of, phase_at, all_changes, AreExclusive, Holds, StandFor}
use Rattle.sb_tenant.specs.State.{State, session_at, changes_of, marks_of, setting_of, progress_of}
use Rattle.sb_tenant.proofs.Sharing.{but, same-but, comes-last}

-- a session's changes, and those of the others
abbrev pub changes_at : State → ℕ → List Change
changes_at state o = changes_of (session_at state o)

abbrev pub others_of : State → ℕ → List Change
others_of state s = flat_map (changes_at state) (but s sessions)

-- the tables as they stand without the session's changes
abbrev pub base_of : List Held → State → ℕ → List Held
base_of origin state s = tables_after_all (others_of state s) origin

-- ---- one session's transaction

-- candidates stay where changes and marks do
pub still-candidates : (old new : Kept) (o : ℕ) (p q : Progress) → ((r : ℕ) → is_candidate_of new o r ≡ is_candidate_of old o r) → q.changes ≡ p.changes → ((r : ℕ) → q.marks r ≡ p.marks r) →
    (rules : List Rule) → AreCandidates old o p rules → AreCandidates new o q rules
still-candidates old new o p q e cs ms [] h = tt
still-candidates old new o p q e cs ms (rule ∷ rules) h = (
  λ active triggered. e rule.id ∙ h.0 active ((λ i. is_triggered rule.triggers rule.table (drop (sym (ms rule.id) i) (sym cs i))) ∙ triggered),
  still-candidates old new o p q e cs ms rules h.1,
)

module _ (laws : TablesAreShared) (origin : List Held) (store : Store) (state : State) (h : Holds origin store state) (s : ℕ) (is : IsTrue (is_session s)) where
  made-last : AreMade origin (others_of state s ++ changes_at state s) store.database.tables
  made-last =
      laws.independent origin store.database.tables (all_changes state) (others_of state s ++ changes_at state s) (comes-last state.locks (changes_at state) h.exclusive h.locked s is) h.made

  pub made-base : AreMade origin (others_of state s) (base_of origin state s)
  made-base = (laws.in_turn origin store.database.tables (others_of state s) (changes_at state s) made-last).0

  pub one-session : (records : List Record) (clock : ℕ) (index : List (List TableSets)) → Agrees store.database.id state store.database.transactions records clock index →
      Represents (base_of origin state s) store.database s records clock (setting_of store.database.id state s) (progress_of store.database.left state s)
  one-session records clock index a = record {
    who = refl;
    changes = a.transactions s is;
    past = λ rule. (a.marks s is rule).0;
    tested = a.past s is;
    untriggered = a.untriggered s is;
    marks = λ rule. sym ((a.marks s is rule).1);
    base = laws.seen origin (others_of state s) ∙ ap (after_all (others_of state s)) h.committed;
    made = (laws.in_turn origin store.database.tables (others_of state s) (changes_at state s) made-last).1;
    locks = h.locks;
    locked = h.locked s is;
    candidates = still-candidates store.database.transactions store.database.transactions s (progress_of None state s) (progress_of store.database.left state s) (λ r. refl) refl (λ r. refl) state.catalog.rules (h.candidates s is);
    left = refl;
  }

-- ---- what stays for the others

pub own-or-other : (s o : ℕ) (P : ℕ → Type 0) → P s → (nat_eq o s ≡ false → P o) → P o
own-or-other s o P own other = by (nat_eq o s) refl
  where
    by : (b : Bool) → nat_eq o s ≡ b → P o
    by true e = subst P (sym (eqb-true o s e)) own
    by false e = other e

pub still-locked : (old new : Locks) (o : ℕ) → ((t : ℕ) (m : LockMode) → new o t m ≡ old o t m) → (cs : List Change) → AreLocked old o cs → AreLocked new o cs
still-locked old new o e [] h = tt
still-locked old new o e (c ∷ cs) h = (e c.table Write ∙ h.0, still-locked old new o e cs h.1)

pub still-untriggered : (who other : Who) (old new : Kept) (rs more : List Record)
    → ((r : ℕ) → changes_between other (mark_of new other.session r) (tested_of new other.session r) more ≡ changes_between who (mark_of old who.session r) (tested_of old who.session r) rs)
    → (rules : List Rule) → AreUntriggered who old rs rules → AreUntriggered other new more rules
still-untriggered who other old new rs more same [] h = tt
still-untriggered who other old new rs more same (rule ∷ rules) h = (ap (is_triggered rule.triggers rule.table) (same rule.id) ∙ h.0, still-untriggered who other old new rs more same rules h.1)

module _ (old new : List Held) (e : (id : ℕ) → has_number new id ≡ has_number old id) where
  still-there : (request : List (ℕ × LockMode)) → AreThere old request → AreThere new request
  still-there [] h = tt
  still-there (r ∷ request) h = (e r.0 ∙ h.0, still-there request h.1)

  still-condition : (condition : Option Query) → IsConditionThere old condition → IsConditionThere new condition
  still-condition None h = tt
  still-condition (Some q) h = still-there (query_locks q) h

  still-actions : (actions : List Action) → AreActionsThere old actions → AreActionsThere new actions
  still-actions [] h = tt
  still-actions (action.Rollback ∷ actions) h = still-actions actions h
  still-actions (action.Change statement ∷ actions) h = (still-there (statement_locks statement) h.0, still-actions actions h.1)

  pub still-run : (rules : List Rule) → CanRun old rules → CanRun new rules
  still-run [] h = tt
  still-run (rule ∷ rules) h = ((still-condition rule.condition h.0.0, still-actions rule.actions h.0.1, h.0.2), still-run rules h.1)

-- ---- a step of one session

-- what a call leaves as it was, beside the session's transaction
pub record IsCallOf (s : ℕ) (old new : Store) (earlier after : List Record) (clock later : ℕ) : Type 0 where
  pub id : new.database.id ≡ old.database.id
  pub records : OtherRecordsStay (who_of old.database.id s) earlier after
  pub times : clock ≤ later
  pub transactions : OtherSessionsStay old.database.transactions new.database.transactions s
  pub phases : (o : ℕ) → nat_eq o s ≡ false → phase_at new.phases o ≡ phase_at old.phases o
  pub definitions : new.definitions ≡ old.definitions

-- the state after it differs in the session, in its locks and in committed rows
pub record IsStateAfter (s : ℕ) (state next : State) : Type 0 where
  pub sessions : (o : ℕ) → nat_eq o s ≡ false → session_at next o ≡ session_at state o
  pub rules : next.catalog.rules ≡ state.catalog.rules
  pub pairs : next.catalog.pairs ≡ state.catalog.pairs
  pub rulesets : next.catalog.rulesets ≡ state.catalog.rulesets

-- what it is to leave for the state after it, but for the tables
pub record IsStepOf (s : ℕ) (old new : Store) (earlier after : List Record) (clock later : ℕ) (state next : State) : Type 0 where
  pub call : IsCallOf s old new earlier after clock later
  pub numbers : (t : ℕ) → has_number new.database.tables t ≡ has_number old.database.tables t
  -- the state
  pub leads : IsStateAfter s state next
  pub locks : (o t : ℕ) (m : LockMode) → nat_eq o s ≡ false → next.locks o t m ≡ state.locks o t m
  pub exclusive : AreExclusive next.locks
  -- the session's own
  pub held : (o t : ℕ) (m : LockMode) → held new.database.locks o t m ≡ next.locks o t m
  pub phase : phase_at new.phases s ≡ phase_of (session_at next s)
  pub changes : changes_by (who_of new.database.id s) after ≡ changes_of (session_at next s)
  pub marks : StandsFor new.database.id s next after later (mark_of new.database.transactions s)
  pub past : ArePast new.database.transactions s later
  pub untriggered : AreUntriggered (who_of new.database.id s) new.database.transactions after state.catalog.rules
  pub locked : AreLocked next.locks s (changes_of (session_at next s))
  pub candidates : AreCandidates new.database.transactions s (progress_of None next s) state.catalog.rules

module _ (s : ℕ) (is : IsTrue (is_session s)) (old new : Store) (earlier after : List Record) (clock later : ℕ) (index : List (List TableSets)) (state next : State) (origin : List Held) (h : Holds origin old state)
    (k : IsStepOf s old new earlier after clock later state next) where
  all-locked : (o : ℕ) → IsTrue (is_session o) → AreLocked next.locks o (changes_at next o)
  all-locked o io =
      own-or-other s o (λ x. AreLocked next.locks x (changes_at next x)) k.locked
      (λ other. subst (AreLocked next.locks o) (ap changes_of (sym (k.leads.sessions o other))) (still-locked state.locks next.locks o (λ t m. k.locks o t m other) (changes_at state o) (h.locked o io)))

  -- the tables, where the committed ones stay
  pub made-on : TablesAreShared → AreMade (base_of origin state s) (changes_at next s) new.database.tables → AreMade origin (all_changes next) new.database.tables
  made-on laws m =
      laws.independent origin new.database.tables (others_of next s ++ changes_at next s) (all_changes next) (λ t. sym (comes-last next.locks (changes_at next) k.exclusive all-locked s is t))
      (subst (λ cs. AreMade origin (cs ++ changes_at next s) new.database.tables) (sym (same-but (changes_at next) (changes_at state) s (λ o other. ap changes_of (k.leads.sessions o other)) sessions))
      (laws.joined origin (base_of origin state s) new.database.tables (others_of state s) (changes_at next s) (made-base laws origin old state h s is) m))

  pub holds-on : (from : List Held) → entries from ≡ next.catalog.tables → AreMade from (all_changes next) new.database.tables → Holds from new next
  holds-on from committed made = record {
    committed = committed;
    made = made;
    locked = all-locked;
    exclusive = k.exclusive;
    locks = k.held;
    phases = λ o io. own-or-other s o (λ x. phase_at new.phases x ≡ phase_of (session_at next x)) k.phase
        (λ other. k.call.phases o other ∙ h.phases o io ∙ ap phase_of (sym (k.leads.sessions o other)));
    candidates = λ o io. subst (AreCandidates new.database.transactions o (progress_of None next o)) (sym k.leads.rules)
        (own-or-other s o (λ x. AreCandidates new.database.transactions x (progress_of None next x) state.catalog.rules) k.candidates
        (λ other. still-candidates old.database.transactions new.database.transactions o (progress_of None state o) (progress_of None next o) (λ r. (k.call.transactions o r other).2)
        (ap changes_of (k.leads.sessions o other)) (λ r. ap (λ x. marks_of x r) (k.leads.sessions o other)) state.catalog.rules (h.candidates o io)));
    rules = ap (λ (d : Definitions). d.rules) k.call.definitions ∙ h.rules ∙ sym k.leads.rules;
    ordered = subst (λ (d : Definitions). AreOrdered d.order next.catalog.rules next.catalog.pairs) (sym k.call.definitions)
        (subst (λ rules. AreOrdered old.definitions.order rules next.catalog.pairs) (sym k.leads.rules) (subst (AreOrdered old.definitions.order state.catalog.rules) (sym k.leads.pairs) h.ordered));
    rulesets = ap (λ (d : Definitions). d.rulesets) k.call.definitions ∙ h.rulesets ∙ sym k.leads.rulesets;
    runnable = subst (CanRun new.database.tables) (sym k.leads.rules) (still-run old.database.tables new.database.tables k.numbers state.catalog.rules h.runnable);
  }

  other-who : (o : ℕ) → nat_eq o s ≡ false → who_of new.database.id o ≢ who_of old.database.id s
  other-who o other e = true≢false (sym (eq-eqb o s (ap (λ (w : Who). w.session) e)) ∙ other)

  module _ (a : Agrees old.database.id state old.database.transactions earlier clock index) where
    transactions-on : (o : ℕ) → nat_eq o s ≡ false → IsTrue (is_session o) → changes_by (who_of new.database.id o) after ≡ changes_of (session_at next o)
    transactions-on o other io =
        ap changes (k.call.records (who_of new.database.id o) (other-who o other)) ∙ ap (λ (id : ℕ). changes_by (who_of id o) earlier) k.call.id ∙ a.transactions o io ∙ ap changes_of (sym (k.leads.sessions o other))

    marks-on : (o : ℕ) → nat_eq o s ≡ false → IsTrue (is_session o) → StandsFor new.database.id o next after later (mark_of new.database.transactions o)
    marks-on o other io = λ rule.
        let same : mark_of new.database.transactions o rule ≡ mark_of old.database.transactions o rule = (k.call.transactions o rule other).0 in
        let was = a.marks o io rule in
        let past : mark_of old.database.transactions o rule ≤ clock = was.0 in
        let on : clock ≤ later = k.call.times in (
          omega arith,
          (λ i. length (before (same i) (k.call.records (who_of new.database.id o) (other-who o other) i)))
              ∙ ap (λ (id : ℕ). mark_at (who_of id o) (mark_of old.database.transactions o rule) earlier) k.call.id ∙ was.1 ∙ ap (λ x. marks_of x rule) (sym (k.leads.sessions o other)),
        )

    past-on : (o : ℕ) → nat_eq o s ≡ false → IsTrue (is_session o) → ArePast new.database.transactions o later
    past-on o other io = λ rule.
        let same = k.call.transactions o rule other in
        let was = a.past o io rule in
        (let m = same.0 in let t = same.1 in let l = was.0 in omega arith, let t = same.1 in let l = was.1 in let on = k.call.times in omega arith)

    untriggered-on : (o : ℕ) → nat_eq o s ≡ false → IsTrue (is_session o) → AreUntriggered (who_of new.database.id o) new.database.transactions after state.catalog.rules
    untriggered-on o other io =
        still-untriggered (who_of old.database.id o) (who_of new.database.id o) old.database.transactions new.database.transactions earlier after
        (λ rule.
        (λ i. changes_among ((k.call.transactions o rule other).0 i) ((k.call.transactions o rule other).1 i) (k.call.records (who_of new.database.id o) (other-who o other) i))
        ∙ ap (λ (id : ℕ). changes_between (who_of id o) (mark_of old.database.transactions o rule) (tested_of old.database.transactions o rule) earlier) k.call.id)
        state.catalog.rules (a.untriggered o io)
      where
        changes_among : ℕ → ℕ → List Record → List Change
        changes_among since until rs = changes (filter (λ r. nat_le since r.0 && nat_lt r.0 until) rs)

    pub agrees-on : Agrees new.database.id next new.database.transactions after later index
    agrees-on = record {
      transactions = λ o io. own-or-other s o (λ x. changes_by (who_of new.database.id x) after ≡ changes_of (session_at next x)) k.changes (λ other. transactions-on o other io);
      marks = λ o io. own-or-other s o (λ x. StandsFor new.database.id x next after later (mark_of new.database.transactions x)) k.marks (λ other. marks-on o other io);
      past = λ o io. own-or-other s o (λ x. ArePast new.database.transactions x later) k.past (λ other. past-on o other io);
      untriggered = λ o io. subst (AreUntriggered (who_of new.database.id o) new.database.transactions after) (sym k.leads.rules)
          (own-or-other s o (λ x. AreUntriggered (who_of new.database.id x) new.database.transactions after state.catalog.rules) k.untriggered (λ other. untriggered-on o other io));
      indexed = subst (λ id. AreIndexed index id next.catalog.rules) (sym k.call.id) (subst (AreIndexed index old.database.id) (sym k.leads.rules) a.indexed);
    }

    -- where the committed tables stay
    pub stands-on : TablesAreShared → next.catalog.tables ≡ state.catalog.tables → AreMade (base_of origin state s) (changes_at next s) new.database.tables → StandFor new after later index next
    stands-on laws same m = ((origin, holds-on origin (h.committed ∙ sym same) (made-on laws m)), agrees-on)
