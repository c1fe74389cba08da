-- A state whose tuples are numbered otherwise, with paths for what is the same.
use Rattle.std.proofs.Common.{Option, ◌≡◌, ◌∙◌, ℕ, Bool, true, false, not, ◌&&◌, ◌||◌, cond, nat_eq, List, [], ◌∷◌, ◌++◌, map, filter, refl, sym, subst, IsTrue, true≢false}
use Rattle.std.specs.List.{flat_map, list_any}
use Rattle.std.proofs.lemmas.List.{map-append}
use Rattle.sb_value.specs.declared.change.Change.{Change}
use Rattle.sb_value.specs.Locks.{Locks, released, sessions}
use Rattle.sb_value.specs.Table.{after_all}
use Rattle.sb_process.specs.Setting.{Progress}
use Rattle.sb_tenant.specs.Limits.{is_session}
use Rattle.sb_tenant.specs.State.{State, Session, closed, idle, active, Catalog, session_at, with_session, is_open, has_transaction, another_has_transaction, changes_of, marks_of, tables_without, setting_of, progress_of, with_progress, rolled_back, committed}
use Rattle.sb_tenant.specs.Alike.{HaveSamePairs}
use Rattle.sb_tenant.specs.AlikeTenants.{Numbering, IsNumbering, renumbered_change, renumbered_entry, IsRenumberedCatalog, IsRenumberedSession, IsRenumbered}
use Rattle.sb_tenant.proofs.Numbered.{tables_after, numbering_after}
use Rattle.sb_tenant.proofs.AlikeProcessing.{renumbered_progress, renumbered_setting}

-- ---- a session

abbrev pub renumbered_session : ℕ → Numbering → Session → Session
renumbered_session tenant n closed = closed
renumbered_session tenant n idle = idle
renumbered_session tenant n (active changes marks) = active (map (renumbered_change tenant n) changes) marks

module _ (tenant : ℕ) (n : Numbering) where
  from-session : (a b : Session) → IsRenumberedSession tenant n a b → b ≡ renumbered_session tenant n a
  from-session closed b h = h
  from-session idle b h = h
  from-session (active cs ms) (active ds ks) h = λ i. active (h.0 i) (λ rule. h.1 rule i)
  from-session (active cs ms) closed h = elim h [ ]
  from-session (active cs ms) idle h = elim h [ ]

  renumbered : (a : Session) → IsRenumberedSession tenant n a (renumbered_session tenant n a)
  renumbered closed = refl
  renumbered idle = refl
  renumbered (active cs ms) = (refl, λ rule. refl)

  to-session : (a b : Session) → b ≡ renumbered_session tenant n a → IsRenumberedSession tenant n a b
  to-session a b e = subst (IsRenumberedSession tenant n a) (sym e) (renumbered a)

  -- what is read of it is the same
  record IsReadSame (a b : Session) : Type 0 where
    opened : is_open b ≡ is_open a
    transaction : has_transaction b ≡ has_transaction a
    changes : changes_of b ≡ map (renumbered_change tenant n) (changes_of a)
    marks : marks_of b ≡ marks_of a

  read-same : (a : Session) → IsReadSame a (renumbered_session tenant n a)
  read-same closed = record { opened = refl; transaction = refl; changes = refl; marks = refl }
  read-same idle = record { opened = refl; transaction = refl; changes = refl; marks = refl }
  read-same (active cs ms) = record { opened = refl; transaction = refl; changes = refl; marks = refl }

-- by whatever numbering, where it has no transaction
pub without-transaction : (tenant : ℕ) (n m : Numbering) (a : Session) → has_transaction a ≡ false → renumbered_session tenant n a ≡ renumbered_session tenant m a
without-transaction tenant n m closed e = refl
without-transaction tenant n m idle e = refl
without-transaction tenant n m (active cs ms) e = absurd (true≢false e)

-- ---- what is said of all sessions

abbrev pub AreSessions : List ℕ → Type 0
AreSessions [] = Unit {0}
AreSessions (o ∷ ss) = IsTrue (is_session o) × AreSessions ss

pub are-sessions : AreSessions sessions
are-sessions = (refl, (refl, (refl, (refl, (refl, (refl, (refl, (refl, tt))))))))

are-filtered : (p : ℕ → Bool) (ss : List ℕ) → AreSessions ss → AreSessions (filter p ss)
are-filtered p [] is = tt
are-filtered p (o ∷ ss) is = by (p o) (are-filtered p ss is.1)
  where
    by : (b : Bool) → AreSessions (filter p ss) → AreSessions (cond b (o ∷ filter p ss) (filter p ss))
    by true rest = (is.0, rest)
    by false rest = rest

pub any-same : (f g : ℕ → Bool) (ss : List ℕ) → AreSessions ss → ((o : ℕ) → IsTrue (is_session o) → f o ≡ g o) → list_any f ss ≡ list_any g ss
any-same f g [] is h = refl
any-same f g (o ∷ ss) is h = λ i. h o is.0 i || any-same f g ss is.1 h i

all-same : (r : Change → Change) (f g : ℕ → List Change) (ss : List ℕ) → AreSessions ss → ((o : ℕ) → IsTrue (is_session o) → f o ≡ map r (g o)) →
    flat_map f ss ≡ map r (flat_map g ss)
all-same r f g [] is h = refl
all-same r f g (o ∷ ss) is h = (λ i. h o is.0 i ++ all-same r f g ss is.1 h i) ∙ sym (map-append r (g o) (flat_map g ss))

-- ---- a state

pub record IsMade (tenant : ℕ) (n : Numbering) (one other : State) : Type 0 where
  pub catalog : IsRenumberedCatalog n one.catalog other.catalog
  pub locks : other.locks ≡ one.locks
  pub sessions : (s : ℕ) → IsTrue (is_session s) → session_at other s ≡ renumbered_session tenant n (session_at one s)

pub from-renumbered : (tenant : ℕ) (n : Numbering) (one other : State) → IsRenumbered tenant n one other → IsMade tenant n one other
from-renumbered tenant n one other h = record {
  catalog = h.catalog;
  locks = λ i s table mode. h.locks s table mode i;
  sessions = λ s is. from-session tenant n (session_at one s) (session_at other s) (h.sessions s is);
}

pub to-renumbered : (tenant : ℕ) (n : Numbering) (one other : State) → IsMade tenant n one other → IsRenumbered tenant n one other
to-renumbered tenant n one other h = record {
  catalog = h.catalog;
  locks = λ s table mode i. h.locks i s table mode;
  sessions = λ s is. to-session tenant n (session_at one s) (session_at other s) (h.sessions s is);
}

module _ (tenant : ℕ) (n : Numbering) (one other : State) (made : IsMade tenant n one other) where
  abbrev r : Change → Change
  r = renumbered_change tenant n

  -- one session put anew, and all locks
  pub put : (s : ℕ) (a b : Session) (before after : Locks) → b ≡ renumbered_session tenant n a → after ≡ before →
      IsMade tenant n (record (with_session one s a) { locks = before }) (record (with_session other s b) { locks = after })
  put s a b before after e f = record {
    catalog = made.catalog;
    locks = f;
    sessions = λ o is. by o (nat_eq o s) (made.sessions o is);
  }
    where
      by : (o : ℕ) (t : Bool) → session_at other o ≡ renumbered_session tenant n (session_at one o) → cond t b (session_at other o) ≡ renumbered_session tenant n (cond t a (session_at one o))
      by o true p = e
      by o false p = p

  pub back : (s : ℕ) → IsMade tenant n (rolled_back one s) (rolled_back other s)
  back s = put s idle idle (released one.locks s) (released other.locks s) refl (λ i. released (made.locks i) s)

  -- other numbers and another catalog, while no session has a transaction
  pub with-catalog : (m : Numbering) (a b : Catalog) → IsNumbering m a.tables → b.tables ≡ map (renumbered_entry m) a.tables → b.rules ≡ a.rules → b.rulesets ≡ a.rulesets →
      HaveSamePairs b.pairs a.pairs → ((s : ℕ) → IsTrue (is_session s) → renumbered_session tenant n (session_at one s) ≡ renumbered_session tenant m (session_at one s)) →
      IsMade tenant m (record one { catalog = a }) (record other { catalog = b })
  with-catalog m a b numbering tables rules rulesets pairs same = record {
    catalog = record { numbering_is = numbering; tables = tables; rules = rules; rulesets = rulesets; pairs = pairs };
    locks = made.locks;
    sessions = λ s is. made.sessions s is ∙ same s is;
  }

  pub steps-made : (k l : ℕ) → IsMade tenant n (record one { steps = k }) (record other { steps = l })
  steps-made k l = record {
    catalog = made.catalog;
    locks = made.locks;
    sessions = made.sessions;
  }

  -- ---- what is read of the sessions

  pub is-open-same : (s : ℕ) → IsTrue (is_session s) → is_open (session_at other s) ≡ is_open (session_at one s)
  is-open-same s is = (λ i. is_open (made.sessions s is i)) ∙ (read-same tenant n (session_at one s)).opened

  pub has-same : (s : ℕ) → IsTrue (is_session s) → has_transaction (session_at other s) ≡ has_transaction (session_at one s)
  has-same s is = (λ i. has_transaction (made.sessions s is i)) ∙ (read-same tenant n (session_at one s)).transaction

  pub another-same : (s : ℕ) → another_has_transaction other s ≡ another_has_transaction one s
  another-same s =
      any-same (λ o. not (nat_eq o s) && has_transaction (session_at other o)) (λ o. not (nat_eq o s) && has_transaction (session_at one o)) sessions are-sessions
      (λ o is i. not (nat_eq o s) && has-same o is i)

  changes-at : (s : ℕ) → IsTrue (is_session s) → changes_of (session_at other s) ≡ map r (changes_of (session_at one s))
  changes-at s is = (λ i. changes_of (made.sessions s is i)) ∙ (read-same tenant n (session_at one s)).changes

  -- ---- what processing works on

  abbrev others : ℕ → List Change
  others s = flat_map (λ o. changes_of (session_at one o)) (filter (λ o. not (nat_eq o s)) sessions)

  pub without-same : (s : ℕ) → tables_without other s ≡ map (renumbered_entry n) (tables_without one s)
  without-same s =
      (λ i. after_all (lists i) (made.catalog.tables i))
      ∙ tables_after tenant n (others s) one.catalog.tables made.catalog.numbering_is
    where
      lists : flat_map (λ o. changes_of (session_at other o)) (filter (λ o. not (nat_eq o s)) sessions) ≡ map r (others s)
      lists =
          all-same r (λ o. changes_of (session_at other o)) (λ o. changes_of (session_at one o)) (filter (λ o. not (nat_eq o s)) sessions)
          (are-filtered (λ o. not (nat_eq o s)) sessions are-sessions) changes-at

  pub without-numbered : (s : ℕ) → IsNumbering n (tables_without one s)
  without-numbered s = numbering_after n (others s) one.catalog.tables made.catalog.numbering_is

  pub setting-same : (first s : ℕ) → setting_of tenant other s ≡ renumbered_setting tenant n other.catalog.pairs (setting_of first one s)
  setting-same first s = λ i. record {
    who = record { tenant = tenant; session = s };
    rules = made.catalog.rules i;
    pairs = other.catalog.pairs;
    base = without-same s i;
  }

  pub progress-same : (left : Option ℕ) (s : ℕ) → IsTrue (is_session s) → progress_of left other s ≡ renumbered_progress tenant n (progress_of left one s)
  progress-same left s is = λ i. record {
    changes = changes-at s is i;
    marks = marks i;
    locks = made.locks i;
    left = left;
  }
    where
      marks : marks_of (session_at other s) ≡ marks_of (session_at one s)
      marks = (λ i. marks_of (made.sessions s is i)) ∙ (read-same tenant n (session_at one s)).marks

  pub goes-on : (s : ℕ) (p : Progress) → IsMade tenant n (with_progress one s p) (with_progress other s (renumbered_progress tenant n p))
  goes-on s p = put s (active p.changes p.marks) (active (map r p.changes) p.marks) p.locks p.locks refl refl

  pub committed-same : (s : ℕ) → IsTrue (is_session s) → IsMade tenant n (committed one s) (committed other s)
  committed-same s is = record {
    catalog = record {
      numbering_is = numbering_after n (changes_of (session_at one s)) one.catalog.tables made.catalog.numbering_is;
      tables = (λ i. after_all (changes-at s is i) (made.catalog.tables i)) ∙ tables_after tenant n (changes_of (session_at one s)) one.catalog.tables made.catalog.numbering_is;
      rules = made.catalog.rules;
      rulesets = made.catalog.rulesets;
      pairs = made.catalog.pairs;
    };
    locks = (back s).locks;
    sessions = (back s).sessions;
  }
