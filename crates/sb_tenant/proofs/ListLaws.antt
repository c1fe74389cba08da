-- The lists of changes of all sessions are proper: what each command leaves of it, and so each legal trail.
use Rattle.std.proofs.Common.{◌≡◌, ◌∙◌, ℕ, Bool, true, false, not, cond, nat_eq, List, [], ◌∷◌, ◌++◌, refl, sym, ap, subst, eqb-true, IsTrue}
use Rattle.std.proofs.lemmas.Bool.{eq-eqb}
use Rattle.std.specs.List.{flat_map}
use Rattle.sb_value.specs.declared.change.Change.{Change}
use Rattle.sb_value.specs.declared.lock.LockMode.TheVariants.{Write}
use Rattle.sb_value.specs.Locks.{Locks, sessions}
use Rattle.sb_value.specs.Table.{Entry, after_all, has_table, table_at, IsProper, IsTable}
use Rattle.sb_check.specs.declared.tree.Action.{Action}
use Rattle.sb_check.specs.declared.tree.Action.TheVariants as action
use Rattle.sb_check.specs.declared.tree.Statement.{Statement}
use Rattle.sb_catalog.specs.declared.rule.Rule.{Rule}
use Rattle.sb_eval.specs.Laws.{ChangesAreProper}
use Rattle.sb_eval.specs.Target.{target}
use Rattle.sb_process.specs.Represents.{AreLocked}
use Rattle.sb_process.specs.Setting.{Setting, Progress, seen_with}
use Rattle.sb_tenant.specs.Limits.{is_session}
use Rattle.sb_tenant.specs.Represents.{AreExclusive}
use Rattle.sb_tenant.specs.State.{State, Session, idle, session_at, changes_of, tables_without, setting_of, committed}
use Rattle.sb_tenant.specs.WellFormed.{HasSoundLocks}
use Rattle.sb_tenant.proofs.Keeping.{AreGoodActions, AreGoodRules, IsKept}
use Rattle.sb_tenant.proofs.LockLaws.{IsFit, fit-kept}
use Rattle.sb_tenant.proofs.ProperLists.{has-after_all, proper-and, sound-after_all, AreOn, proper-on, agree-elsewhere}
use Rattle.sb_tenant.proofs.Sharing.{but, AreSessions, are-sessions}
use Rattle.sb_tenant.proofs.Standing.{still-locked}

-- ---- what the others have changed, this session has not locked

module _ (locks : Locks) (exclusive : AreExclusive locks) (s : ℕ) (is : IsTrue (is_session s)) (f : ℕ → List Change) (locked : (o : ℕ) → nat_eq o s ≡ false → AreLocked locks o (f o)) where
  abbrev Unlocked : List Change → Type 0
  Unlocked cs = AreOn (λ t. not (locks s t Write)) cs

  unlocked-and : (one other : List Change) → Unlocked one → Unlocked other → Unlocked (one ++ other)
  unlocked-and [] other h k = k
  unlocked-and (c ∷ one) other h k = (h.0, unlocked-and one other h.1 k)

  unlocked-one : (o : ℕ) → IsTrue (is_session o) → nat_eq o s ≡ false → (cs : List Change) → AreLocked locks o cs → Unlocked cs
  unlocked-one o io other [] h = tt
  unlocked-one o io other (c ∷ cs) h = (ap not (exclusive o s c.table Write io is other h.0), unlocked-one o io other cs h.1)

  unlocked-all : (ss : List ℕ) → AreSessions ss → Unlocked (flat_map f (but s ss))
  unlocked-all [] are = tt
  unlocked-all (o ∷ ss) are = by (nat_eq o s) refl (unlocked-all ss are.1)
    where
      by : (b : Bool) → nat_eq o s ≡ b → Unlocked (flat_map f (but s ss)) → Unlocked (flat_map f (cond (not b) (o ∷ but s ss) (but s ss)))
      by true e rest = rest
      by false e rest = unlocked-and (f o) (flat_map f (but s ss)) (unlocked-one o are.0 e (f o) (locked o e)) rest

  pub unlocked : Unlocked (flat_map f (but s sessions))
  unlocked = unlocked-all sessions are-sessions

locked-on : (s : ℕ) (locks : Locks) (cs : List Change) → AreLocked locks s cs → AreOn (λ t. locks s t Write) cs
locked-on s locks [] k = tt
locked-on s locks (c ∷ cs) k = (k.0, locked-on s locks cs k.1)

-- ---- while a transaction goes on

module _ (laws : ChangesAreProper) (tenant : ℕ) (state : State) (h : HasSoundLocks state) (s : ℕ) (is : IsTrue (is_session s)) (tables : (t : ℕ) → IsTable (table_at state.catalog.tables t)) where
  abbrev pub IsThere : Statement → Type 0
  IsThere statement = IsTrue (has_table state.catalog.tables (target statement))

  abbrev others : List Change
  others = flat_map (λ o. changes_of (session_at state o)) (but s sessions)

  abbrev pub IsInOrder : Progress → Type 0
  IsInOrder p = IsFit s state.locks p × IsProper (tables_without state s) p.changes

  apart : (p : Progress) → IsFit s state.locks p → AreOn (λ x. not (p.locks s x Write)) others
  apart p fit =
      unlocked p.locks fit.taken.exclusive s is (λ o. changes_of (session_at state o))
      (λ o other. still-locked state.locks p.locks o (λ x m. fit.taken.others o x m other) (changes_of (session_at state o)) (h.locked o))

  -- the tables that a session has locked stand without its changes as they are committed
  pub base-sound : (p : Progress) → IsFit s state.locks p → (t : ℕ) → IsTrue (p.locks s t Write) → IsTrue (has_table state.catalog.tables t) → IsTable (table_at (tables_without state s) t)
  base-sound p fit t own has = subst IsTable (sym ((agree-elsewhere (λ x. p.locks s x Write) others state.catalog.tables (apart p fit) t own has).1)) (tables t)

  -- what is proper from the tables that the session sees is proper from the committed ones, and the other way round
  pub from-base : (p : Progress) → IsFit s state.locks p → IsProper (tables_without state s) p.changes → IsProper state.catalog.tables p.changes
  from-base p fit =
      proper-on (λ x. p.locks s x Write) p.changes (tables_without state s) state.catalog.tables (locked-on s p.locks p.changes fit.locked)
      (λ t own has.
      let there = sym (has-after_all others state.catalog.tables t) ∙ has in
      (there, sym ((agree-elsewhere (λ x. p.locks s x Write) others state.catalog.tables (apart p fit) t own there).1)))

  pub to-base : (p : Progress) → IsFit s state.locks p → IsProper state.catalog.tables p.changes → IsProper (tables_without state s) p.changes
  to-base p fit =
      proper-on (λ x. p.locks s x Write) p.changes state.catalog.tables (tables_without state s) (locked-on s p.locks p.changes fit.locked)
      (agree-elsewhere (λ x. p.locks s x Write) others state.catalog.tables (apart p fit))

  pub order-kept : IsKept (setting_of tenant state s) IsThere IsInOrder
  order-kept = record {
    mark = λ rule p k. ((fit-kept setting state.locks).mark rule p k.0, k.1);
    request = λ list p e k. ((fit-kept setting state.locks).request list p e k.0, k.1);
    change = λ transition statement p changes there asked k e. (
      (fit-kept setting state.locks).change transition statement p changes tt asked k.0 e,
      proper-and (tables_without state s) p.changes changes k.1
          (laws (seen_with setting transition p) statement changes
          (has-after_all p.changes (tables_without state s) (target statement) ∙ has-after_all others state.catalog.tables (target statement) ∙ there)
          (sound-after_all p.changes (tables_without state s) (target statement) k.1 (base-sound p k.0 (target statement) asked there)) e).proper,
    );
    left = λ left p k. ((fit-kept setting state.locks).left left p k.0, k.1);
  }
    where
      setting : Setting
      setting = setting_of tenant state s

-- ---- a state

abbrev pub IsIn : List Entry → Statement → Type 0
IsIn tables statement = IsTrue (has_table tables (target statement))

-- the committed tables are sound, what rules change is there, and each list is proper from the committed tables
pub record HasProperTables (state : State) : Type 0 where
  pub tables : (t : ℕ) → IsTable (table_at state.catalog.tables t)
  pub rules : AreGoodRules (IsIn state.catalog.tables) state.catalog.rules
  pub lists : (s : ℕ) → IsTrue (is_session s) → IsProper state.catalog.tables (changes_of (session_at state s))

module _ (state : State) (g : HasProperTables state) (s : ℕ) where
  pub proper-put : (locks : Locks) (steps : ℕ) (session : Session) → IsProper state.catalog.tables (changes_of session) →
      HasProperTables (record { catalog = state.catalog; locks = locks; sessions = λ o. cond (nat_eq o s) session (session_at state o); steps = steps })
  proper-put locks steps session own = record { tables = g.tables; rules = g.rules; lists = λ o io. by o io (nat_eq o s) }
    where
      by : (o : ℕ) → IsTrue (is_session o) → (b : Bool) → IsProper state.catalog.tables (changes_of (cond b session (session_at state o)))
      by o io true = own
      by o io false = g.lists o io

-- tables of the one are tables of the other
module _ (es fs : List Entry) (more : (t : ℕ) → IsTrue (has_table es t) → IsTrue (has_table fs t)) where
  good-actions : (actions : List Action) → AreGoodActions (IsIn es) actions → AreGoodActions (IsIn fs) actions
  good-actions [] k = tt
  good-actions (action.Rollback ∷ actions) k = good-actions actions k
  good-actions (action.Change statement ∷ actions) k = (more (target statement) k.0, good-actions actions k.1)

  pub good-rules : (rules : List Rule) → AreGoodRules (IsIn es) rules → AreGoodRules (IsIn fs) rules
  good-rules [] k = tt
  good-rules (rule ∷ rules) k = (good-actions rule.actions k.0, good-rules rules k.1)

-- ---- a commit

swap : (o s : ℕ) → nat_eq o s ≡ false → nat_eq s o ≡ false
swap o s e = by (nat_eq s o) refl
  where
    by : (b : Bool) → nat_eq s o ≡ b → b ≡ false
    by true p = sym (eq-eqb o s (sym (eqb-true s o p))) ∙ e
    by false p = refl

pub proper-committed : (state : State) → HasSoundLocks state → HasProperTables state → (s : ℕ) → IsTrue (is_session s) → HasProperTables (committed state s)
proper-committed state h g s is = record {
  tables = λ t. sound-after_all cs state.catalog.tables t (g.lists s is) (g.tables t);
  rules = good-rules state.catalog.tables (after_all cs state.catalog.tables) (λ t k. has-after_all cs state.catalog.tables t ∙ k) state.catalog.rules g.rules;
  lists = λ o io. by o io (nat_eq o s) refl;
}
  where
    cs : List Change
    cs = changes_of (session_at state s)

    by : (o : ℕ) → IsTrue (is_session o) → (b : Bool) → nat_eq o s ≡ b → IsProper (after_all cs state.catalog.tables) (changes_of (cond b idle (session_at state o)))
    by o io true e = tt
    by o io false e =
        proper-on (λ t. state.locks o t Write) (changes_of (session_at state o)) state.catalog.tables (after_all cs state.catalog.tables)
        (locked-on o state.locks (changes_of (session_at state o)) (h.locked o))
        (agree-elsewhere (λ t. state.locks o t Write) cs state.catalog.tables
        (unlocked-one state.locks h.exclusive o io (λ x. []) (λ x d. tt) s is (swap o s e) cs (h.locked s))) (g.lists o io)
