-- Tables at rest: the tables that they show, with their tuples numbered from 0 on, are renumbered to be them.
use Rattle.std.proofs.Common.{◌≡◌, ◌∙◌, ℕ, zero, suc, ◌+◌, ◌<◌, ◌||◌, Bool, true, false, cond, nat_eq, List, [], ◌∷◌, map, length, All, refl, sym, ap, subst, arith, eqb-true, eq-eqb, ltb-true, IsTrue}
use Rattle.std.proofs.lemmas.Bool.{or_parts}
use Rattle.std.proofs.lemmas.List.{length-map}
use Rattle.std.proofs.lemmas.List.Elements.{All-nil, All-cons, All-head, All-tail}
use Rattle.sb_tenant.specs.declared.bound.Bound.{Bound}
use Rattle.sb_value.specs.declared.value.Value.{Value}
use Rattle.std.specs.List.{list_any}
use Rattle.sb_value.specs.declared.lock.LockMode.{LockMode}
use Rattle.sb_value.specs.Locks.{no_locks, sessions}
use Rattle.sb_value.specs.Table.{Table, Entry, values, has_table, AreBelow, AreRising, IsTable}
use Rattle.sb_tenant.specs.Alike.{Shown, shown, HaveSamePairs, AreApart, IsAtRest, AreAlikeWithSessions}
use Rattle.sb_tenant.specs.AlikeTenants.{Numbering, IsNumbering, renumbered_table, renumbered_entry, IsRenumberedSession, IsRenumbered, AreAlike}
use Rattle.sb_tenant.specs.AlikeLaws.{AlikeAtRestAreAlike}
use Rattle.sb_tenant.specs.declared.reply.Entry as entry
use Rattle.sb_tenant.specs.Trail.{IsLegal, after_entry, replayed}
use Rattle.sb_tenant.specs.TrailLaws.{LegalStatesAreReplayed, OthersStay}
use Rattle.sb_tenant.specs.WellFormed.{StatesAreWellFormed}
use Rattle.sb_tenant.specs.Limits.{is_session}
use Rattle.sb_tenant.specs.State.{State, Session, opening, closed, idle, active, session_at, is_open, has_transaction}
use Rattle.sb_tenant.proofs.Sharing.{each-session}
use Rattle.sb_tenant.proofs.Numbered.{Row, renumbered_row, IsSteady}

-- ---- a table

-- rows with the numbers from m on
abbrev numbered_from : ℕ → List (List Value) → List Row
numbered_from m [] = []
numbered_from m (row ∷ rows) = (m, row) ∷ numbered_from (m + 1) rows

-- the number of the k-th row, and new numbers behind the last
abbrev number_at : List Row → ℕ → ℕ → ℕ
number_at [] next k = next + k
number_at (r ∷ rows) next zero = r.0
number_at (r ∷ rows) next (suc k) = number_at rows next k

renumbered_rows : (next : ℕ) (f : ℕ → ℕ) (m : ℕ) (rows : List Row) → ((k : ℕ) → f (m + k) ≡ number_at rows next k) → map (renumbered_row f) (numbered_from m (map (λ r. r.1) rows)) ≡ rows
renumbered_rows next f m [] e = refl
renumbered_rows next f m (r ∷ rows) e = λ i.
    ((ap f (let p : m ≡ m + 0 = omega arith in p) ∙ e 0) i, r.1)
    ∷ renumbered_rows next f (m + 1) rows (λ k. ap f (let p : m + 1 + k ≡ m + suc k = omega arith in p) ∙ e (suc k)) i

behind : (next : ℕ) (rows : List Row) (k : ℕ) → number_at rows next (length rows + k) ≡ next + k
behind next [] k = ap (λ (m : ℕ). next + m) (let p : 0 + k ≡ k = omega arith in p)
behind next (r ∷ rows) k = ap (number_at (r ∷ rows) next) (let p : suc (length rows) + k ≡ suc (length rows + k) = omega arith in p) ∙ behind next rows k

last_number : (table : Table) → number_at table.rows table.next (length (values table)) ≡ table.next
last_number table =
    ap (number_at table.rows table.next) (length-map table.rows (λ r. r.1) ∙ (let p : length table.rows ≡ length table.rows + 0 = omega arith in p))
    ∙ behind table.next table.rows 0
    ∙ (let p : table.next + 0 ≡ table.next = omega arith in p)

-- the first row has the least number
least : (next : ℕ) (r : Row) (rows : List Row) → AreBelow next (r ∷ rows) → AreRising (r ∷ rows) → (k : ℕ) → r.0 < number_at rows next k
least next r [] below rising k = omega (arith, below.0)
least next r (q ∷ rows) below rising zero = rising.0
least next r (q ∷ rows) below rising (suc k) = omega (arith, rising.0, least next q rows below.1 rising.1 k)

rising-rows : (next : ℕ) (rows : List Row) → AreBelow next rows → AreRising rows → (a b : ℕ) → a < b → number_at rows next a < number_at rows next b
rising-rows next [] below rising a b l = omega arith
rising-rows next (r ∷ rows) below rising zero zero l = absurd (omega (arith, l))
rising-rows next (r ∷ rows) below rising zero (suc b) l = least next r rows below rising b
rising-rows next (r ∷ rows) below rising (suc a) zero l = absurd (omega (arith, l))
rising-rows next (r ∷ []) below rising (suc a) (suc b) l = omega (arith, l)
rising-rows next (r ∷ q ∷ rows) below rising (suc a) (suc b) l = rising-rows next (q ∷ rows) below.1 rising.1 a b (omega (arith, l))

-- ---- tables

-- the table that is shown, with its tuples numbered from 0 on
abbrev pub plain : Shown → Entry
plain s = record { id = s.id; name = s.name; table = record { columns = s.columns; rows = numbered_from 0 s.rows; next = length s.rows } }

abbrev pub plain_tables : List Entry → List Entry
plain_tables tables = map plain (map shown tables)

-- with a numbering of its own for one table
abbrev with_numbers : Numbering → ℕ → (ℕ → ℕ) → Numbering
with_numbers n id number t = cond (nat_eq id t) number (n t)

-- the numbering that gives tables their numbers
abbrev pub numbers_in : List Entry → Numbering
numbers_in [] t k = k
numbers_in (e ∷ tables) t k = with_numbers (numbers_in tables) e.id (number_at e.table.rows e.table.next) t k

apart-swap : (a b : ℕ) → nat_eq a b ≡ false → nat_eq b a ≡ false
apart-swap a b e = by (nat_eq b a) refl
  where
    by : (c : Bool) → nat_eq b a ≡ c → c ≡ false
    by true p = sym (eq-eqb a b (sym (eqb-true b a p))) ∙ e
    by false p = refl

-- tables of other numbers are numbered as before
others-same : (n : Numbering) (id : ℕ) (number : ℕ → ℕ) (tables : List Entry) → has_table tables id ≡ false →
    map (renumbered_entry (with_numbers n id number)) (plain_tables tables) ≡ map (renumbered_entry n) (plain_tables tables)
others-same n id number [] h = refl
others-same n id number (e ∷ tables) h =
    let parts = or_parts (nat_eq e.id id) (has_table tables id) h in
    λ i. record {
      id = e.id;
      name = e.name;
      table = renumbered_table (cond (apart-swap e.id id parts.0 i) number (n e.id)) (plain (shown e)).table;
    } ∷ others-same n id number tables parts.1 i

others-steady : (n : Numbering) (id : ℕ) (number : ℕ → ℕ) (tables : List Entry) → has_table tables id ≡ false →
    All (IsSteady n) (plain_tables tables) → All (IsSteady (with_numbers n id number)) (plain_tables tables)
others-steady n id number [] h steady = All-nil (IsSteady (with_numbers n id number))
others-steady n id number (e ∷ tables) h steady =
    let parts = or_parts (nat_eq e.id id) (has_table tables id) h in
    All-cons (IsSteady (with_numbers n id number)) (plain (shown e)) (plain_tables tables)
    (subst (λ (b : Bool). (k : ℕ) → cond b number (n e.id) (length (values e.table) + k) ≡ cond b number (n e.id) (length (values e.table)) + k) (sym (apart-swap e.id id parts.0)) (All-head (IsSteady n) (plain (shown e)) (plain_tables tables) steady))
    (others-steady n id number tables parts.1 (All-tail (IsSteady n) (plain (shown e)) (plain_tables tables) steady))

-- tables are their plain tables, renumbered
pub renumbered_plain : (tables : List Entry) → AreApart tables → map (renumbered_entry (numbers_in tables)) (plain_tables tables) ≡ tables
renumbered_plain [] apart = refl
renumbered_plain (e ∷ tables) apart = λ i. first i ∷ (others-same (numbers_in tables) e.id number tables apart.0 ∙ renumbered_plain tables apart.1) i
  where
    number : ℕ → ℕ
    number = number_at e.table.rows e.table.next

    rows_are : map (renumbered_row number) (numbered_from 0 (values e.table)) ≡ e.table.rows
    rows_are = renumbered_rows e.table.next number 0 e.table.rows (λ k. ap number (let p : 0 + k ≡ k = omega arith in p))

    next_is : number (length (values e.table)) ≡ e.table.next
    next_is = last_number e.table

    first : renumbered_entry (numbers_in (e ∷ tables)) (plain (shown e)) ≡ e
    first = λ i. record {
      id = e.id;
      name = e.name;
      table = (ap (λ (b : Bool). renumbered_table (cond b number (numbers_in tables e.id)) (plain (shown e)).table) (eq-eqb e.id e.id refl)
          ∙ (λ j. record { columns = e.table.columns; rows = rows_are j; next = next_is j })) i;
    }

-- ---- the numbering

rising-in : (tables : List Entry) → All (λ e. IsTable e.table) tables → (t a b : ℕ) → a < b → numbers_in tables t a < numbers_in tables t b
rising-in [] h t a b l = l
rising-in (e ∷ tables) h t a b l = by (nat_eq e.id t) (rising-in tables (All-tail (λ e. IsTable e.table) e tables h) t a b l)
  where
    number : ℕ → ℕ
    number = number_at e.table.rows e.table.next

    sound : IsTable e.table
    sound = All-head (λ e. IsTable e.table) e tables h

    by : (c : Bool) → numbers_in tables t a < numbers_in tables t b → cond c number (numbers_in tables t) a < cond c number (numbers_in tables t) b
    by true rest = rising-rows e.table.next e.table.rows sound.0 sound.1 a b l
    by false rest = rest

steady-in : (tables : List Entry) → AreApart tables → All (IsSteady (numbers_in tables)) (plain_tables tables)
steady-in [] apart = All-nil (IsSteady (numbers_in []))
steady-in (e ∷ tables) apart =
    All-cons (IsSteady (numbers_in (e ∷ tables))) (plain (shown e)) (plain_tables tables)
    (subst (λ (b : Bool). (k : ℕ) → cond b number (numbers_in tables e.id) (length (values e.table) + k) ≡ cond b number (numbers_in tables e.id) (length (values e.table)) + k) (sym (eq-eqb e.id e.id refl)) own)
    (others-steady (numbers_in tables) e.id number tables apart.0 (steady-in tables apart.1))
  where
    number : ℕ → ℕ
    number = number_at e.table.rows e.table.next

    own : (k : ℕ) → number (length (values e.table) + k) ≡ number (length (values e.table)) + k
    own k =
        ap (λ (m : ℕ). number (m + k)) (length-map e.table.rows (λ r. r.1))
        ∙ behind e.table.next e.table.rows k
        ∙ ap (λ (m : ℕ). m + k) (sym (last_number e.table))

elsewhere-in : (tables : List Entry) (t k : ℕ) → has_table (plain_tables tables) t ≡ false → numbers_in tables t k ≡ k
elsewhere-in [] t k h = refl
elsewhere-in (e ∷ tables) t k h =
    let parts = or_parts (nat_eq e.id t) (has_table (plain_tables tables) t) h in
    ap (λ (b : Bool). cond b (number_at e.table.rows e.table.next) (numbers_in tables t) k) parts.0 ∙ elsewhere-in tables t k parts.1

pub numbering_in : (tables : List Entry) → AreApart tables → All (λ e. IsTable e.table) tables → IsNumbering (numbers_in tables) (plain_tables tables)
numbering_in tables apart sound = record { rising = rising-in tables sound; steady = steady-in tables apart; elsewhere = elsewhere-in tables }

-- ---- a state

-- a session that has no transaction is open or closed as another one
same-session : (tenant : ℕ) (n : Numbering) (one other : Session) → has_transaction one ≡ false → has_transaction other ≡ false → is_open one ≡ is_open other → IsRenumberedSession tenant n one other
same-session tenant n closed closed a b e = refl
same-session tenant n closed idle a b e = absurd (cc)
same-session tenant n closed (active changes marks) a b e = absurd (cc)
same-session tenant n idle closed a b e = absurd (cc)
same-session tenant n idle idle a b e = refl
same-session tenant n idle (active changes marks) a b e = absurd (cc)
same-session tenant n (active changes marks) other a b e = absurd (cc)

quiet : (state : State) → IsAtRest state → (s : ℕ) → IsTrue (is_session s) → has_transaction (session_at state s) ≡ false
quiet state rest s is = each-session (λ k. has_transaction (session_at state k)) s is rest.ended

-- the state that both come from: the tables as they are shown, and no locks
abbrev plain_state : State → State
plain_state state = record state {
  catalog = record state.catalog { tables = plain_tables state.catalog.tables };
  locks = no_locks;
}

abbrev pub AreUnlocked : State → Type 0
AreUnlocked state = (s table : ℕ) (mode : LockMode) → state.locks s table mode ≡ false

-- a state at rest that is alike is the plain state, renumbered
from_plain : (tenant : ℕ) (one other : State) → map shown one.catalog.tables ≡ map shown other.catalog.tables → other.catalog.rules ≡ one.catalog.rules → other.catalog.rulesets ≡ one.catalog.rulesets →
    HaveSamePairs other.catalog.pairs one.catalog.pairs → IsAtRest one → IsAtRest other → ((s : ℕ) → IsTrue (is_session s) → is_open (session_at one s) ≡ is_open (session_at other s)) → AreUnlocked other →
    IsRenumbered tenant (numbers_in other.catalog.tables) (plain_state one) other
from_plain tenant one other tables rules rulesets pairs first second same unlocked = record {
  catalog = record {
    numbering_is = subst (λ (es : List Shown). IsNumbering (numbers_in other.catalog.tables) (map plain es)) (sym tables) (numbering_in other.catalog.tables second.apart second.tables);
    tables = sym (renumbered_plain other.catalog.tables second.apart) ∙ ap (λ (es : List Shown). map (renumbered_entry (numbers_in other.catalog.tables)) (map plain es)) (sym tables);
    rules = rules;
    rulesets = rulesets;
    pairs = pairs;
  };
  locks = unlocked;
  sessions = λ s is. same-session tenant (numbers_in other.catalog.tables) (session_at one s) (session_at other s) (quiet one first s is) (quiet other second s is) (same s is);
}

-- what is alike at rest, with no locks, is alike
pub at_rest_by : (first second : ℕ) (one other : State) → AreUnlocked one → AreUnlocked other → AreAlikeWithSessions one other → AreAlike first second one other
at_rest_by first second one other unlocked free alike = record {
  state = plain_state one;
  first_numbering = numbers_in one.catalog.tables;
  second_numbering = numbers_in other.catalog.tables;
  first_is = from_plain first one one refl refl refl (λ a b. refl) alike.at_rest.first alike.at_rest.first (λ s is. refl) unlocked;
  second_is =
      from_plain second one other alike.at_rest.catalogs.tables (sym alike.at_rest.catalogs.rules) (sym alike.at_rest.catalogs.rulesets)
      (λ a b. sym (alike.at_rest.catalogs.pairs a b)) alike.at_rest.first alike.at_rest.second alike.sessions free;
}

-- ---- a state that can be reached

-- nothing is locked where no session has a transaction
module _ (tenant : ℕ) (bound : Bound) (formed : StatesAreWellFormed tenant bound) (replays : LegalStatesAreReplayed tenant bound) (stay : OthersStay tenant bound) where
  -- a session that a tenant doesn't have stays closed
  closed-after : (s : ℕ) → is_session s ≡ false → (trail : List entry.Entry) (before after state : State) → IsLegal tenant bound before trail after →
      session_at state s ≡ closed → session_at (replayed tenant bound state trail) s ≡ closed
  closed-after s none [] before after state legal is = is
  closed-after s none (e ∷ trail) before after state legal is =
      closed-after s none trail legal.0 after (after_entry tenant bound state e) legal.2 (stay state e s (by (nat_eq s e.session) refl legal.1.0) ∙ is)
    where
      by : (b : Bool) → nat_eq s e.session ≡ b → IsTrue (is_session e.session) → b ≡ false
      by true p own = sym own ∙ sym (ap is_session (eqb-true s e.session p)) ∙ none
      by false p own = refl

  pub unlocked : (trail : List entry.Entry) (state : State) → IsLegal tenant bound opening trail state → IsAtRest state → AreUnlocked state
  unlocked trail state legal rest s table mode = (formed trail state legal).0.owned s table mode (by (is_session s) refl)
    where
      by : (b : Bool) → is_session s ≡ b → has_transaction (session_at state s) ≡ false
      by true is = quiet state rest s is
      by false none =
          ap (λ (x : State). has_transaction (session_at x s)) (replays trail state legal).0
          ∙ ap has_transaction (closed-after s none trail opening state opening legal refl)

module _ (first second : ℕ) (bound : Bound) (formed : (tenant : ℕ) → StatesAreWellFormed tenant bound) (replays : (tenant : ℕ) → LegalStatesAreReplayed tenant bound) (stay : (tenant : ℕ) → OthersStay tenant bound) where
  pub at_rest : AlikeAtRestAreAlike first second bound
  at_rest one other trail again legal made alike =
      at_rest_by first second one other
      (unlocked first bound (formed first) (replays first) (stay first) trail one legal alike.at_rest.first)
      (unlocked second bound (formed second) (replays second) (stay second) again other made alike.at_rest.second) alike
