-- A command's class, what its session refuses, and what its answer leaves.
use Rattle.std.proofs.Common.{◌≡◌, ◌∙◌, ℕ, zero, suc, ◌+◌, ◌<◌, ◌≤◌, Bool, true, false, not, ◌&&◌, ◌||◌, nat_eq, List, [], ◌∷◌, length, refl, sym, ap, subst, arith, inl, inr, eqb-true, ne_eqb, unwrap_or}
use Rattle.std.specs.Prelude.{if◌then◌else◌, Option, None, Some, Result, IsTrue}
use Rattle.std.specs.List.{list_any}
use Rattle.std.proofs.lemmas.Bool.{ltb-true, lt-ltb, not-false}
use denote.Enum.Bare.{sameb}
use Rattle.sb_tenant.specs.declared.bound.Bound.{Bound}
use Rattle.sb_tenant.specs.contracts.phase.Phase.{the_type}
use Rattle.sb_value.specs.declared.refusal.Refusal.{Refusal}
use Rattle.sb_value.specs.declared.refusal.Refusal.TheVariants as refusal
use Rattle.sb_value.specs.Locks.{sessions}
use Rattle.sb_syntax.specs.Grammar as grammar
use Rattle.sb_syntax.specs.Input.{Input}
use Rattle.sb_syntax.specs.Text.{Spells, command_of}
use Rattle.sb_syntax.specs.Tree.{Command}
use Rattle.sb_syntax.specs.Tree as text
use Rattle.sb_rawlog.specs.Records.{Record}
use Rattle.sb_index.specs.TableSets.{TableSets}
use Rattle.sb_tenant.specs.declared.phase.Phase.{Phase}
use Rattle.sb_tenant.specs.declared.phase.Phase.TheVariants.{Closed, Idle, Active}
use Rattle.sb_tenant.specs.declared.reply.Reply.{Reply}
use Rattle.sb_tenant.specs.declared.reply.Reply.TheVariants as reply
use Rattle.sb_tenant.specs.declared.store.Store.{Store}
use Rattle.sb_tenant.specs.Defining.{IsAtRest, IsDone, Defines, HasFewActions, is_under_way, is_not_closed, is_another_under_way, phase_refusal, told}
use Rattle.sb_tenant.specs.Limits.{is_session}
use Rattle.sb_tenant.specs.Represents.{StandFor, Performs, Leaves, phase_at, phase_of}
use Rattle.sb_tenant.specs.Resolved.{Class, opens, ends, begins, defines}
use Rattle.sb_tenant.specs.State.{State, Session, closed, idle, active, session_at, is_open, has_transaction, rolled_back}
use Rattle.sb_tenant.specs.Step.{refusal_by, first_of, session_refusal, outcome_of, reply_to_command, reply_to}
use Rattle.sb_tenant.specs.Trail.{aborted}
use Rattle.sb_tenant.specs.Walk.{class_of, walk}
use Rattle.sb_tenant.proofs.Leaving.{below_more}

-- ---- commands

-- the grammar gives a rule 8 actions at most
few_in_body : {q : Option text.Query} {actions : List text.Action} {before after : List text.Name} {ts rest : Input} → grammar.IsRuleBody q actions before after ts rest → length actions ≤ 8
few_in_body (grammar.rule_body i t s few b a) = few

few_in_rule : {r : text.RuleText} {ts rest : Input} → grammar.IsRule r ts rest → length r.actions ≤ 8
few_in_rule (grammar.rule head body) = few_in_body body

few_then : {all : Option (List text.Action)} {ts rest : Input} → grammar.IsThen all ts rest → length (unwrap_or all []) ≤ 8
few_then grammar.as_before = omega arith
few_then (grammar.then_actions is d few) = few

few_altered : {r : text.AlterationText} {ts rest : Input} → grammar.IsAlteration r ts rest → length (unwrap_or r.actions []) ≤ 8
few_altered (grammar.alteration p i t b a n) = few_then t

few_in : {c : Command} {ts rest : Input} → grammar.IsLeadingCommand c ts rest → HasFewActions c
few_in (grammar.creates_rule r) = few_in_rule r
few_in (grammar.alters_rule r) = few_altered r
few_in other = tt

pub few_spelt : (line : List ℕ) (c : Command) → Spells line c → HasFewActions c
few_spelt line c s = few_in s.spell

-- ---- what the session refuses

open_by : (x : Session) → is_not_closed (phase_of x) ≡ is_open x
open_by closed = refl
open_by idle = refl
open_by (active changes marks) = refl

under_way_by : (x : Session) → is_under_way (phase_of x) ≡ has_transaction x
under_way_by closed = refl
under_way_by idle = refl
under_way_by (active changes marks) = refl

abbrev another : ℕ → ℕ → Bool → Bool
another o s b = not (nat_eq o s) && b

module _ (phases : List Phase) (state : State) (are : (s : ℕ) → IsTrue (is_session s) → phase_at phases s ≡ phase_of (session_at state s)) where
  own_is : (s : ℕ) → IsTrue (is_session s) → is_under_way (phase_at phases s) ≡ has_transaction (session_at state s)
  own_is s i = ap is_under_way (are s i) ∙ under_way_by (session_at state s)

  others_are : (s : ℕ) → is_another_under_way phases s ≡ list_any (λ o. not (nat_eq o s) && has_transaction (session_at state o)) sessions
  others_are s = λ i.
      another 0 s (own_is 0 refl i) || (another 1 s (own_is 1 refl i) || (another 2 s (own_is 2 refl i) || (another 3 s (own_is 3 refl i)
      || (another 4 s (own_is 4 refl i) || (another 5 s (own_is 5 refl i) || (another 6 s (own_is 6 refl i) || (another 7 s (own_is 7 refl i) || false)))))))

  pub refusal_is : (class : Class) (s : ℕ) → IsTrue (is_session s) → phase_refusal class phases s ≡ session_refusal class state s
  refusal_is class s i = λ j.
      refusal_by class ((ap is_not_closed (are s i) ∙ open_by (session_at state s)) j) (own_is s i j) (others_are s j)

-- ---- what the phases allow

first_none : (b : Bool) (r : Refusal) (others : Option Refusal) → first_of b r others ≡ None → (b ≡ false) × (others ≡ None)
first_none true r others h = absurd (cc h)
first_none false r others h = (refl, h)

idle_by : (p : Phase) → is_not_closed p ≡ true → is_under_way p ≡ false → p ≡ Idle
idle_by Closed h k = absurd (cc h)
idle_by Idle h k = refl
idle_by Active h k = absurd (cc k)

-- none of the sessions passes a test
none_in : (test : ℕ → Bool) (s : ℕ) (xs : List ℕ) → list_any (λ o. nat_eq o s) xs ≡ true → list_any test xs ≡ false → test s ≡ false
none_in test s [] m h = absurd (cc m)
none_in test s (x ∷ xs) m h = by (nat_eq x s) (test x) refl refl (none_in test s xs)
  where
    by : (b c : Bool) → nat_eq x s ≡ b → test x ≡ c → (list_any (λ o. nat_eq o s) xs ≡ true → list_any test xs ≡ false → test s ≡ false) → test s ≡ false
    by b true e f rest = absurd (cc (sym (ap (λ d. d || list_any test xs) f) ∙ h))
    by true false e f rest = ap test (sym (eqb-true x s e)) ∙ f
    by false false e f rest = rest (sym (ap (λ d. d || list_any (λ o. nat_eq o s) xs) e) ∙ m) (sym (ap (λ d. d || list_any test xs) f) ∙ h)

in_sessions : (s : ℕ) → IsTrue (is_session s) → list_any (λ o. nat_eq o s) sessions ≡ true
in_sessions zero h = refl
in_sessions (suc zero) h = refl
in_sessions (suc (suc zero)) h = refl
in_sessions (suc (suc (suc zero))) h = refl
in_sessions (suc (suc (suc (suc zero)))) h = refl
in_sessions (suc (suc (suc (suc (suc zero))))) h = refl
in_sessions (suc (suc (suc (suc (suc (suc zero)))))) h = refl
in_sessions (suc (suc (suc (suc (suc (suc (suc zero))))))) h = refl
in_sessions (suc (suc (suc (suc (suc (suc (suc (suc s)))))))) h = absurd (omega (arith, ltb-true (suc (suc (suc (suc (suc (suc (suc (suc s)))))))) 8 h))

-- one of the sessions passes it
pub passes : (test : ℕ → Bool) (s : ℕ) → IsTrue (is_session s) → test s ≡ true → list_any test sessions ≡ true
passes test s i h = by (list_any test sessions) refl
  where
    by : (b : Bool) → list_any test sessions ≡ b → b ≡ true
    by true e = refl
    by false e = absurd (cc (sym h ∙ none_in test s sessions (in_sessions s i) e))

under_way_same : (p : Phase) → sameb the_type p Active ≡ true → is_under_way p ≡ true
under_way_same Closed h = absurd (cc h)
under_way_same Idle h = absurd (cc h)
under_way_same Active h = refl

-- another session that has a transaction
pub another_is : (phases : List Phase) (s o : ℕ) → o < 8 → (o ≡ s → ⊥) → sameb the_type (phase_at phases o) Active ≡ true → true ≡ is_another_under_way phases s
another_is phases s o below other is =
    sym (passes (λ k. not (nat_eq k s) && is_under_way (phase_at phases k)) o (lt-ltb o 8 below) ((λ i. not (ne_eqb o s other i) && is_under_way (phase_at phases o)) ∙ under_way_same (phase_at phases o) is))

busy_by : (b : Bool) → (if b then Some refusal.Busy else None) ≡ first_of b refusal.Busy None
busy_by true = refl
busy_by false = refl

-- an idle session refuses such a command where another one has a transaction
pub idle_refusal : (phases : List Phase) (s : ℕ) → Idle ≡ phase_at phases s → (if is_another_under_way phases s then Some refusal.Busy else None) ≡ phase_refusal defines phases s
idle_refusal phases s e =
    busy_by (is_another_under_way phases s) ∙ ap (λ (p : Phase). refusal_by defines (is_not_closed p) (is_under_way p) (is_another_under_way phases s)) e

pub may_define : (phases : List Phase) (s : ℕ) → IsTrue (is_session s) → phase_refusal defines phases s ≡ None → IsAtRest phases × (phase_at phases s ≡ Idle)
may_define phases s i h =
    let p = phase_at phases s in
    let a = first_none (not (is_not_closed p)) refusal.NotOpen (first_of (is_under_way p) refusal.InTransaction (first_of (is_another_under_way phases s) refusal.Busy None)) h in
    let b = first_none (is_under_way p) refusal.InTransaction (first_of (is_another_under_way phases s) refusal.Busy None) a.1 in
    let c = first_none (is_another_under_way phases s) refusal.Busy None b.1 in
    ((λ o j. by o (nat_eq o s) refl b.0 (none_in (λ o. not (nat_eq o s) && is_under_way (phase_at phases o)) o sessions (in_sessions o j) c.0)), idle_by p (not-false (is_not_closed p) a.0) b.0)
  where
    by : (o : ℕ) (same : Bool) → nat_eq o s ≡ same → is_under_way (phase_at phases s) ≡ false → (not (nat_eq o s) && is_under_way (phase_at phases o)) ≡ false → is_under_way (phase_at phases o) ≡ false
    by o true e own others = ap (λ n. is_under_way (phase_at phases n)) (eqb-true o s e) ∙ own
    by o false e own others = ap (λ b. not b && is_under_way (phase_at phases o)) (sym e) ∙ others

-- ---- what an answer leaves

-- without a transaction an abort changes nothing
pub abort_idle : (state : State) (s : ℕ) → has_transaction (session_at state s) ≡ false → aborted state s ≡ state
abort_idle state s h = ap (λ (b : Bool). elim b [ true ↦ rolled_back state s | false ↦ state ]) h

pub done_performs : (new : Store) (records : List Record) (clock : ℕ) (index : List (List TableSets)) (state : State) (s : ℕ) (meant : State × Reply) (result : Result (Unit {0}) Refusal) (got : Reply)
    → has_transaction (session_at state s) ≡ false → got ≡ told result → IsDone new records clock index state meant result → Performs new records clock index state s meant got
done_performs new records clock index state s meant result got none is (inl h) = inl (is ∙ h.0, h.1)
done_performs new records clock index state s meant result got none is (inr h) =
    inr (is ∙ ap told h.0, subst (λ (x : State). StandFor new records clock index x) (sym (abort_idle state s none)) h.1)

-- ---- a command, by what its session refuses

pub eighth : (s n : ℕ) → n ≡ s → n < 8 → IsTrue (is_session s)
eighth s n same below = lt-ltb s 8 (subst (λ (k : ℕ). k < 8) same below)

-- an idle session, and no other that has a transaction
pub rests_to_define : (phases : List Phase) {s n : ℕ} {class : Class} → n ≡ s → n < 8 → class ≡ defines → None ≡ phase_refusal class phases s → IsAtRest phases × (phase_at phases s ≡ Idle)
rests_to_define phases {s} {n} same below is none = may_define phases s (eighth s n same below) (subst (λ (k : Class). phase_refusal k phases s ≡ None) is (sym none))

-- where memory, the log and the index stand for a state, and the command is of this class
module _ {store : Store} {records : List Record} {clock : ℕ} {index : List (List TableSets)} {state : State} {s n : ℕ} (same : n ≡ s) (below : n < 8) (h : StandFor store records clock index state) where
  -- a session that is idle has no transaction
  pub idle_has_none : phase_at store.phases s ≡ Idle → has_transaction (session_at state s) ≡ false
  idle_has_none e = sym (own_is store.phases state h.0.1.phases s (eighth s n same below)) ∙ ap is_under_way e

  module _ {class : Class} (command : Command) (is : class ≡ class_of command) where
    -- the session's refusal by the phases in memory
    refusal_in : (o : Option Refusal) → o ≡ phase_refusal class store.phases s → session_refusal (class_of command) state s ≡ o
    refusal_in o e = ap (λ (k : Class). session_refusal k state s) (sym is) ∙ sym (refusal_is store.phases state h.0.1.phases class s (eighth s n same below)) ∙ sym e

    pub refused_command : (tenant : ℕ) (bound : Bound) {r : Refusal} {got : Reply} → Some r ≡ phase_refusal class store.phases s → got ≡ reply.No r → Performs store records clock index state s (reply_to_command tenant bound state s command) got
    refused_command tenant bound {r} {got} e refused =
        subst (λ (o : Option Refusal). Performs store records clock index state s (outcome_of tenant bound state s o (walk state.catalog command)) got) (sym (refusal_in (Some r) e)) (inl (refused, h))

    pub allowed_command : (tenant : ℕ) (bound : Bound) {new : Store} {after : List Record} {later : ℕ} {sets : List (List TableSets)} {got : Reply} → None ≡ phase_refusal class store.phases s →
        Performs new after later sets state s (outcome_of tenant bound state s None (walk state.catalog command)) got → Performs new after later sets state s (reply_to_command tenant bound state s command) got
    allowed_command tenant bound {new} {after} {later} {sets} {got} e done =
        subst (λ (o : Option Refusal). Performs new after later sets state s (outcome_of tenant bound state s o (walk state.catalog command)) got) (sym (refusal_in None e)) done

-- the command is this one
pub performs_command : {new : Store} {records : List Record} {clock : ℕ} {index : List (List TableSets)} (state : State) (tenant : ℕ) (bound : Bound) (s : ℕ) {c d : Command} {got : Reply} → c ≡ d
    → Performs new records clock index state s (outcome_of tenant bound state s None (walk state.catalog d)) got → Performs new records clock index state s (outcome_of tenant bound state s None (walk state.catalog c)) got
performs_command {new} {records} {clock} {index} state tenant bound s {c} {d} {got} e h =
    subst (λ (x : Command). Performs new records clock index state s (outcome_of tenant bound state s None (walk state.catalog x)) got) (sym e) h

-- ---- what is left of the log

pub leaves_defined : {old new : Store} {before after : List (List TableSets)} {command : Command} {result : Result (Unit {0}) Refusal} {s : ℕ} {records : List Record} {clock : ℕ}
    → Defines old new before after command result → Leaves 32768000 old new s records records clock clock
leaves_defined {old} {new} d = record {
  id = d.id;
  others = λ other differs. refl;
  times = (omega arith, omega arith);
  numbers = λ k below. below_more (k + 2) (k + 32768000) new.database.tables (omega arith) (d.numbers k below);
}

abbrev replied : ℕ → Bound → State → ℕ → Option Command → State × Reply
replied tenant bound state s o =
    elim o [
      | None ↦ (state, reply.No refusal.Syntax)
      | Some command ↦ reply_to_command tenant bound state s command
    ]

-- the line is this command
pub performs_line : (new : Store) (records : List Record) (clock : ℕ) (index : List (List TableSets)) (state : State) (tenant : ℕ) (bound : Bound) (s : ℕ) (line : List ℕ) (command : Command) (got : Reply) → command_of line ≡ Some command
    → Performs new records clock index state s (reply_to_command tenant bound state s command) got → Performs new records clock index state s (reply_to tenant bound state s line) got
performs_line new records clock index state tenant bound s line command got e h =
    subst (λ (o : Option Command). Performs new records clock index state s (replied tenant bound state s o) got) (sym e) h
