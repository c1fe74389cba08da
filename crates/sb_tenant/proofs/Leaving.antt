-- What calls leave, one after another, and the work of an assertion point.
use Rattle.std.proofs.Common.{Option, ◌≡◌, ◌∙◌, ℕ, ◌+◌, ◌≤◌, Bool, true, false, ◌&&◌, ◌||◌, cond, nat_eq, List, [], ◌∷◌, Some, None, refl, sym, ap, subst, eqb-true, arith, IsTrue}
use Rattle.std.specs.List.{list_any}
use Rattle.std.proofs.lemmas.Bool.{eq-eqb}
use Rattle.std.proofs.lemmas.Option.{none-some}
use Rattle.sb_rawlog.specs.Records.{Record}
use Rattle.sb_rawlog.specs.Sessions.{OthersStay as OtherRecordsStay}
use Rattle.sb_tables.specs.Held.{Held}
use Rattle.sb_index.specs.TableSets.{TableSets}
use Rattle.sb_catalog.specs.Definitions.{AreIndexed, AreOrdered}
use Rattle.sb_catalog.specs.Rules.{AreNumbered, numbered, is_active}
use Rattle.sb_catalog.specs.declared.rule.Rule.{Rule}
use Rattle.sb_process.specs.Made.{NumbersBelow}
use Rattle.sb_process.specs.Sharing.{TablesAreShared}
use Rattle.sb_process.specs.Statement.{RisesBy}
use Rattle.sb_process.specs.Work.{AreActive, IsWork}
use Rattle.sb_process.specs.declared.database.Database.{Database}
use Rattle.sb_tenant.specs.declared.store.Store.{Store}
use Rattle.sb_tenant.specs.Limits.{is_session}
use Rattle.sb_tenant.specs.Logged.{Agrees, who_of}
use Rattle.sb_tenant.specs.Represents.{Holds, Leaves, StandFor}
use Rattle.sb_tenant.specs.State.{State, setting_of, progress_of}
use Rattle.sb_tenant.proofs.Standing.{base_of, one-session}

-- ---- one call after another

pub below_more : (n m : ℕ) (tables : List Held) → n ≤ m → NumbersBelow n tables → NumbersBelow m tables
below_more n m [] le h = tt
below_more n m (t ∷ tables) le h = (omega (arith, le, h.0), below_more n m tables le h.1)

-- what rises by little rises by no more than what rises by more
pub leaves_more : {n m s : ℕ} {old new : Store} {before after : List Record} {clock later : ℕ} → Leaves n old new s before after clock later → n ≤ m → Leaves m old new s before after clock later
leaves_more {n} {m} {s} {old} {new} h le = record {
  id = h.id;
  others = h.others;
  times = (h.times.0, omega (arith, le, h.times.1));
  numbers = λ k below. below_more (k + n) (k + m) new.database.tables (omega (arith, le)) (h.numbers k below);
}

-- the log stays as it was, and the tables do
pub leaves_same : (n : ℕ) {s : ℕ} {old new : Store} {records : List Record} {clock : ℕ} → new.database.id ≡ old.database.id → new.database.tables ≡ old.database.tables → Leaves n old new s records records clock clock
leaves_same n {s} {old} {new} id tables = record {
  id = id;
  others = λ other differs. refl;
  times = (omega arith, omega arith);
  numbers = λ k below. below_more k (k + n) new.database.tables (omega arith) (subst (NumbersBelow k) (sym tables) below);
}

-- what takes no time
pub leaves_still : {s : ℕ} {old new : Store} {before after : List Record} {clock later : ℕ} → new.database.id ≡ old.database.id → OtherRecordsStay (who_of old.database.id s) before after → later ≡ clock →
    ((m : ℕ) → NumbersBelow m old.database.tables → NumbersBelow m new.database.tables) → Leaves 0 old new s before after clock later
leaves_still {s} {old} {new} id others same numbers = record {
  id = id;
  others = others;
  times = (omega (arith, same), omega (arith, same));
  numbers = λ m h. below_more m (m + 0) new.database.tables (omega arith) (numbers m h);
}

-- what the database says of it
pub leaves_changed : {n s : ℕ} {old : Store} {database : Database} {before after : List Record} {clock later : ℕ} → database.id ≡ old.database.id → OtherRecordsStay (who_of old.database.id s) before after → RisesBy n clock later →
    ((m : ℕ) → NumbersBelow m old.database.tables → NumbersBelow (m + n) database.tables) → Leaves n old (record old { database = database }) s before after clock later
leaves_changed id others times numbers = record { id = id; others = others; times = times; numbers = numbers }

pub leaves_on : {n m s : ℕ} {one two three : Store} {a b c : List Record} {x y z : ℕ} → Leaves n one two s a b x y → Leaves m two three s b c y z → Leaves (n + m) one three s a c x z
leaves_on {n} {m} {s} {one} {two} {three} f g = record {
  id = g.id ∙ f.id;
  others = λ other differs. g.others other (λ e. differs (e ∙ ap (λ (id : ℕ). who_of id s) f.id)) ∙ f.others other differs;
  times = (omega (arith, f.times.0, g.times.0), omega (arith, f.times.1, g.times.1));
  numbers = λ k h. below_more (k + n + m) (k + (n + m)) three.database.tables (omega arith) (g.numbers (k + n) (f.numbers k h));
}

-- ---- the budget

-- memory stands for a state whatever is left of a budget
pub with-budget : (left : Option ℕ) {store : Store} {records : List Record} {clock : ℕ} {index : List (List TableSets)} {state : State} → StandFor store records clock index state →
    StandFor (record store { database = record store.database { left = left } }) records clock index state
with-budget left ((origin, h), a) = (
  (
    origin,
    record {
      committed = h.committed;
      made = h.made;
      locked = h.locked;
      exclusive = h.exclusive;
      locks = h.locks;
      phases = h.phases;
      candidates = h.candidates;
      rules = h.rules;
      ordered = h.ordered;
      rulesets = h.rulesets;
      runnable = h.runnable;
    },
  ),
  record { transactions = a.transactions; marks = a.marks; past = a.past; untriggered = a.untriggered; indexed = a.indexed },
)

-- nor does what a call leaves
pub leaves-budget : {left : Option ℕ} {n s : ℕ} {old new : Store} {before after : List Record} {clock later : ℕ} → Leaves n (record old { database = record old.database { left = left } }) new s before after clock later →
    Leaves n old new s before after clock later
leaves-budget h = record { id = h.id; others = h.others; times = h.times; numbers = h.numbers }

-- ---- an assertion point

pub work-of : (laws : TablesAreShared) (origin : List Held) (store : Store) (state : State) (h : Holds origin store state) (s : ℕ) (is : IsTrue (is_session s)) (records : List Record) (clock : ℕ) (index : List (List TableSets)) →
    Agrees store.database.id state store.database.transactions records clock index →
    IsWork (base_of origin state s) store.database s records clock index store.definitions.rules store.definitions.order (setting_of store.database.id state s) (progress_of store.database.left state s)
work-of laws origin store state h s is records clock index a = record {
  transaction = one-session laws origin store state h s is records clock index a;
  rules = sym h.rules;
  indexed = subst (AreIndexed index store.database.id) (sym h.rules) a.indexed;
  ordered = subst (λ rules. AreOrdered store.definitions.order rules state.catalog.pairs) (sym h.rules) h.ordered;
}

abbrev has_active : List Rule → ℕ → Bool
has_active rules id = list_any (λ r. nat_eq r.id id && r.active) rules

-- a number that no rule has is none of an active one
none-active : (rules : List Rule) (id : ℕ) → numbered rules id ≡ None → has_active rules id ≡ false
none-active [] id e = refl
none-active (r ∷ rules) id e = by (nat_eq r.id id) e (none-active rules id)
  where
    by : (b : Bool) → cond b (Some r) (numbered rules id) ≡ None → (numbered rules id ≡ None → has_active rules id ≡ false) → ((b && r.active) || has_active rules id) ≡ false
    by true p rest = absurd (none-some r (sym p))
    by false p rest = rest p

none-here : (rules : List Rule) (r : Rule) (id : ℕ) → numbered (r ∷ rules) id ≡ None → nat_eq r.id id ≡ false
none-here rules r id e = by (nat_eq r.id id) e
  where
    by : (b : Bool) → cond b (Some r) (numbered rules id) ≡ None → b ≡ false
    by true p = absurd (none-some r (sym p))
    by false p = refl

none-rest : (rules : List Rule) (r : Rule) (id : ℕ) → numbered (r ∷ rules) id ≡ None → numbered rules id ≡ None
none-rest rules r id e = by (nat_eq r.id id) e
  where
    by : (b : Bool) → cond b (Some r) (numbered rules id) ≡ None → numbered rules id ≡ None
    by true p = absurd (none-some r (sym p))
    by false p = p

-- no rule of the list has a number that passes
abbrev AreFree : (ℕ → Bool) → List Rule → Type 0
AreFree front [] = Unit {0}
AreFree front (r ∷ rules) = (front r.id ≡ false) × AreFree front rules

free-on : (front : ℕ → Bool) (r : Rule) (rules : List Rule) → numbered rules r.id ≡ None → AreFree front rules → AreFree (λ id. front id || (nat_eq r.id id && r.active)) rules
free-on front r [] e f = tt
free-on front r (q ∷ rules) e f = (by (front q.id) (nat_eq r.id q.id) f.0 differs, free-on front r rules (none-rest rules q r.id e) f.1)
  where
    differs : nat_eq r.id q.id ≡ false
    differs = swap (nat_eq r.id q.id) refl
      where
        swap : (b : Bool) → nat_eq r.id q.id ≡ b → b ≡ false
        swap true p = sym (eq-eqb q.id r.id (sym (eqb-true r.id q.id p))) ∙ none-here rules q r.id e
        swap false p = refl

    by : (a b : Bool) → a ≡ false → b ≡ false → (a || (b && r.active)) ≡ false
    by a b p q = λ i. p i || (q i && r.active)

active-behind : (eligible front : ℕ → Bool) (rules : List Rule) → AreNumbered rules → AreFree front rules → ((id : ℕ) → eligible id ≡ true → (front id || has_active rules id) ≡ true) → AreActive eligible rules
active-behind eligible front [] n f h = tt
active-behind eligible front (r ∷ rules) n f h = (
  λ e. sym (by (front r.id) (nat_eq r.id r.id) (has_active rules r.id) f.0 (eq-eqb r.id r.id refl) (none-active rules r.id n.0)) ∙ h r.id e,
  active-behind eligible (λ id. front id || (nat_eq r.id id && r.active)) rules n.1 (free-on front r rules n.0 f.1) (λ id e. regroup (front id) (nat_eq r.id id && r.active) (has_active rules id) ∙ h id e),
)
  where
    or-none : (a : Bool) → (a || false) ≡ a
    or-none true = refl
    or-none false = refl

    by : (a b d : Bool) → a ≡ false → b ≡ true → d ≡ false → (a || ((b && r.active) || d)) ≡ r.active
    by a b d p q o = (λ i. p i || ((q i && r.active) || o i)) ∙ or-none r.active

    regroup : (a b d : Bool) → ((a || b) || d) ≡ (a || (b || d))
    regroup true b d = refl
    regroup false b d = refl

-- the eligible rules are active
pub are-active : (eligible : ℕ → Bool) (rules : List Rule) → AreNumbered rules → ((id : ℕ) → IsTrue (eligible id) → IsTrue (is_active rules id)) → AreActive eligible rules
are-active eligible rules n h = active-behind eligible (λ id. false) rules n (none rules) h
  where
    none : (rules : List Rule) → AreFree (λ id. false) rules
    none [] = tt
    none (r ∷ rules) = (refl, none rules)
