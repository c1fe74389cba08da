-- What stands after the calls on a session's transaction.
use Rattle.std.proofs.Common.{None, ◌≡◌, ◌∙◌, ℕ, Bool, ◌||◌, nat_eq, List, [], ◌∷◌, ◌++◌, drop, length, refl, sym, ap, subst, true≢false, IsTrue, filter, nat_le, nat_lt, ◌&&◌, arith}
use Rattle.sb_value.specs.declared.lock.LockMode.{LockMode}
use Rattle.std.proofs.Math.Seq.{drop-nil}
use Rattle.sb_value.specs.Locks.{sessions, released}
use Rattle.sb_value.specs.NetEffect.{is_triggered}
use Rattle.sb_value.specs.Table.{after_all, has_table}
use Rattle.sb_value.specs.declared.id.Who.{Who}
use Rattle.sb_rawlog.specs.Records.{Record, before}
use Rattle.sb_rawlog.specs.Sessions.{changes, records_by}
use Rattle.sb_tables.specs.Held.{Held, entries, has_number}
use Rattle.sb_locks.specs.Held.{held}
use Rattle.sb_index.specs.TableSets.{TableSets}
use Rattle.sb_catalog.specs.declared.rule.Rule.{Rule}
use Rattle.sb_process.specs.Made.{AreMade, tables_after_all}
use Rattle.sb_process.specs.Represents.{Represents, AreCandidates, AreUntriggered, AreLocked, IsTakenBack, IsKept, is_written}
use Rattle.sb_process.specs.Setting.{Progress}
use Rattle.sb_process.specs.Sharing.{settled_where, TablesAreShared}
use Rattle.sb_process.specs.Transactions.{Kept, mark_of, tested_of, ArePast}
use Rattle.sb_process.specs.declared.database.Database.{Database}
use Rattle.sb_tenant.specs.declared.phase.Phase.TheVariants.{Active}
use Rattle.sb_tenant.specs.declared.store.Store.{Store}
use Rattle.sb_tenant.specs.Limits.{is_session}
use Rattle.sb_tenant.specs.Logged.{Agrees, who_of}
use Rattle.sb_tenant.specs.Represents.{phase_of, phase_at, all_changes, AreExclusive, Holds, StandFor}
use Rattle.sb_tenant.specs.State.{State, Session, active, session_at, changes_of, marks_of, setting_of, progress_of}
use Rattle.sb_tenant.proofs.Sharing.{without, same-but, comes-first, elsewhere}
use Rattle.sb_tenant.proofs.Standing.{changes_at, others_of, base_of, one-session, still-candidates, IsCallOf, IsStateAfter, IsStepOf, holds-on, agrees-on, stands-on}
use Rattle.sb_tenant.proofs.Taking.{Taken, taken-released}

-- ---- a session without changes

none-before : (t : ℕ) (rs : List Record) → changes rs ≡ [] → length (before t rs) ≡ 0
unfolding before
none-before t [] e = refl
none-before t (r ∷ rs) e = absurd (cc)

drop-none : {A : Type 0} (n : ℕ) (xs : List A) → xs ≡ [] → drop n xs ≡ []
drop-none n xs e = ap (drop n) e ∙ drop-nil n

pub no-candidates : (kept : Kept) (s : ℕ) (p : Progress) → p.changes ≡ [] → (rules : List Rule) → AreCandidates kept s p rules
no-candidates kept s p e [] = tt
no-candidates kept s p e (rule ∷ rules) = (
  λ active triggered. absurd (true≢false (sym triggered ∙ ap (is_triggered rule.triggers rule.table) (drop-none (p.marks rule.id) p.changes e))),
  no-candidates kept s p e rules,
)

none-between : (since until : ℕ) (rs : List Record) → changes rs ≡ [] → changes (filter (λ r. nat_le since r.0 && nat_lt r.0 until) rs) ≡ []
none-between since until [] e = refl
none-between since until (r ∷ rs) e = absurd (cc)

pub none-untriggered : (who : Who) (kept : Kept) (rs : List Record) → changes (records_by who rs) ≡ [] → (rules : List Rule) → AreUntriggered who kept rs rules
none-untriggered who kept rs e [] = tt
none-untriggered who kept rs e (rule ∷ rules) = (
  ap (is_triggered rule.triggers rule.table) (none-between (mark_of kept who.session rule.id) (tested_of kept who.session rule.id) (records_by who rs) e),
  none-untriggered who kept rs e rules,
)

has-entries : (tables : List Held) (id : ℕ) → has_table (entries tables) id ≡ has_number tables id
has-entries [] id = refl
has-entries (h ∷ tables) id = ap (λ (b : Bool). nat_eq h.id id || b) (has-entries tables id)

module _ (laws : TablesAreShared) (s : ℕ) (is : IsTrue (is_session s)) (old new : Store) (earlier after : List Record) (clock later : ℕ) (index : List (List TableSets)) (state next : State) (origin : List Held) (h : Holds origin old state)
    (a : Agrees old.database.id state old.database.transactions earlier clock index) (c : IsCallOf s old new earlier after clock later) (n : IsStateAfter s state next) where
  abbrev was : Represents (base_of origin state s) old.database s earlier clock (setting_of old.database.id state s) (progress_of old.database.left state s)
  was = one-session laws origin old state h s is earlier clock index a

  -- the transaction goes on
  module _ (p : Progress) (session : session_at next s ≡ active p.changes p.marks) (locks : next.locks ≡ p.locks) (taken : Taken s state.locks p.locks) (phase : phase_at new.phases s ≡ Active)
      (r : Represents (base_of origin state s) new.database s after later (setting_of old.database.id state s) p) where
    goes : IsStepOf s old new earlier after clock later state next
    goes = record {
      call = c;
      leads = n;
      numbers = λ t. laws.there (base_of origin state s) new.database.tables p.changes r.made t ∙ sym (laws.there (base_of origin state s) old.database.tables (changes_at state s) was.made t);
      locks = λ o t m other. ap (λ l. l o t m) locks ∙ taken.others o t m other;
      exclusive = subst AreExclusive (sym locks) taken.exclusive;
      held = λ o t m. r.locks o t m ∙ sym (ap (λ l. l o t m) locks);
      phase = phase ∙ ap phase_of (sym session);
      changes = r.changes ∙ ap changes_of (sym session);
      marks = λ rule. (r.past rule, sym (r.marks rule) ∙ ap (λ (x : Session). marks_of x rule) (sym session));
      past = r.tested;
      untriggered = r.untriggered;
      locked = subst (λ l. AreLocked l s (changes_of (session_at next s))) (sym locks) (subst (AreLocked p.locks s) (ap changes_of (sym session)) r.locked);
      candidates = still-candidates new.database.transactions new.database.transactions s p (progress_of None next s) (λ x. refl) (ap changes_of session) (λ x. ap (λ (y : Session). marks_of y x) session) state.catalog.rules r.candidates;
    }

    pub stands-with : next.catalog.tables ≡ state.catalog.tables → StandFor new after later index next
    stands-with tables =
        stands-on s is old new earlier after clock later index state next origin h goes a laws tables (subst (λ cs. AreMade (base_of origin state s) cs new.database.tables) (ap changes_of (sym session)) r.made)

  -- the session has no changes any more, and no locks
  module _ (none : changes_of (session_at next s) ≡ []) (unmarked : (rule : ℕ) → marks_of (session_at next s) rule ≡ 0) (locks : next.locks ≡ released state.locks s) (phase : phase_at new.phases s ≡ phase_of (session_at next s))
      (past : ArePast new.database.transactions s later) where
    module _ (numbers : (t : ℕ) → has_number new.database.tables t ≡ has_number old.database.tables t) (empty : changes (records_by (who_of new.database.id s) after) ≡ [])
        (held_after : (o t : ℕ) (m : LockMode) → held new.database.locks o t m ≡ released state.locks s o t m) where
      rests : IsStepOf s old new earlier after clock later state next
      rests = record {
        call = c;
        leads = n;
        numbers = numbers;
        locks = λ o t m other. ap (λ l. l o t m) locks ∙ (taken-released s state.locks h.exclusive).others o t m other;
        exclusive = subst AreExclusive (sym locks) (taken-released s state.locks h.exclusive).exclusive;
        held = λ o t m. held_after o t m ∙ sym (ap (λ l. l o t m) locks);
        phase = phase;
        changes = empty ∙ sym none;
        marks = λ rule. (let p = past rule in omega (arith, p.0, p.1), none-before (mark_of new.database.transactions s rule) (records_by (who_of new.database.id s) after) empty ∙ sym (unmarked rule));
        past = past;
        untriggered = none-untriggered (who_of new.database.id s) new.database.transactions after empty state.catalog.rules;
        locked = subst (AreLocked next.locks s) (sym none) tt;
        candidates = no-candidates new.database.transactions s (progress_of None next s) none state.catalog.rules;
      }

    -- it had none
    pub stands-without : changes_at state s ≡ [] → new.database.id ≡ old.database.id → new.database.tables ≡ old.database.tables → changes (records_by (who_of new.database.id s) after) ≡ [] →
        ((o t : ℕ) (m : LockMode) → held new.database.locks o t m ≡ released state.locks s o t m) → next.catalog.tables ≡ state.catalog.tables → StandFor new after later index next
    stands-without empty id tables free released_now same =
        stands-on s is old new earlier after clock later index state next origin h (rests (λ t. ap (λ ts. has_number ts t) tables) free released_now) a laws same
        (subst (λ ts. AreMade (base_of origin state s) (changes_at next s) ts) (sym tables) (subst (λ cs. AreMade (base_of origin state s) cs old.database.tables) (empty ∙ sym none) was.made))

    -- its changes are taken back
    pub stands-back : (d : Database) → IsTakenBack (base_of origin state s) d new.database s after (setting_of old.database.id state s) (progress_of old.database.left state s) → next.catalog.tables ≡ state.catalog.tables →
        StandFor new after later index next
    stands-back d b tables =
        let numbers = λ (t : ℕ). laws.there (base_of origin state s) new.database.tables [] b.made t ∙ sym (laws.there (base_of origin state s) old.database.tables (changes_at state s) was.made t) in
        stands-on s is old new earlier after clock later index state next origin h (rests numbers b.none b.locks) a laws tables
        (subst (λ cs. AreMade (base_of origin state s) cs new.database.tables) (sym none) b.made)

    -- or they are kept
    abbrev from : List Held
    from = settled_where (is_written state.locks s) (tables_after_all (changes_at state s) origin)

    pub stands-kept : IsKept old.database new.database s after (setting_of old.database.id state s) (progress_of old.database.left state s) → next.catalog.tables ≡ after_all (changes_at state s) state.catalog.tables →
        StandFor new after later index next
    stands-kept b tables = ((from, holds-on s is old new earlier after clock later index state next origin h step from committed made), agrees-on s is old new earlier after clock later index state next origin h step a)
      where
        numbers : (t : ℕ) → has_number new.database.tables t ≡ has_number old.database.tables t
        numbers t =
            sym (has-entries new.database.tables t)
            ∙ ap (λ es. has_table es t) (ap entries b.settled ∙ laws.settled_seen (is_written state.locks s) old.database.tables)
            ∙ has-entries old.database.tables t

        step : IsStepOf s old new earlier after clock later state next
        step = rests numbers b.none b.locks

        committed : entries from ≡ next.catalog.tables
        committed =
            laws.settled_seen (is_written state.locks s) (tables_after_all (changes_at state s) origin) ∙ laws.seen origin (changes_at state s) ∙ ap (after_all (changes_at state s)) h.committed ∙ sym tables

        first : AreMade origin (changes_at state s ++ others_of state s) old.database.tables
        first = laws.independent origin old.database.tables (all_changes state) (changes_at state s ++ others_of state s) (comes-first state.locks (changes_at state) h.exclusive h.locked s is) h.made

        same : others_of state s ≡ all_changes next
        same = sym (without (changes_at next) s none sessions ∙ same-but (changes_at next) (changes_at state) s (λ o other. ap changes_of (n.sessions o other)) sessions)

        made : AreMade from (all_changes next) new.database.tables
        made =
            subst (λ ts. AreMade from (all_changes next) ts) (sym b.settled)
            (subst (λ cs. AreMade from cs (settled_where (is_written state.locks s) old.database.tables)) same
            (laws.settled (is_written state.locks s) origin old.database.tables (changes_at state s) (others_of state s) (elsewhere state.locks (changes_at state) h.exclusive h.locked s is) first))
