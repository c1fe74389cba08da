-- A line that is answered in memory is the tenant's next entry.
use Rattle.std.proofs.Common.{◌≡◌, ℕ, ◌+◌, ◌-◌, ◌^◌, ◌≤◌, true, false, not, ◌&&◌, nat_le, List, [], ◌∷◌, ◌++◌, length, Option, Some, None, inl, inr, Ok, refl, sym, ap, ◌∙◌, subst, arith, codes, length-append, vec_len, vec_capacity}
use Rattle.std.proofs.Math.Bool.{and-false}
use Rattle.sb_tenant.specs.declared.bound.Bound.{Bound}
use Rattle.sb_value.specs.declared.refusal.Refusal.TheVariants as refusal
use Rattle.sb_syntax.specs.Text.{command_of}
use Rattle.sb_syntax.specs.Tree.{Command, open_session}
use Rattle.sb_rawlog.specs.Records.{Record, before}
use Rattle.sb_rawlog.specs.Sessions.{changes}
use Rattle.sb_index.specs.TableSets.{TableSets}
use Rattle.sb_tables.specs.Held.{Held}
use Rattle.sb_catalog.specs.Definitions.{OtherTenantsStay}
use Rattle.sb_process.specs.declared.database.Database.{Database}
use Rattle.sb_process.specs.Made.{NumbersBelow}
use Rattle.sb_process.specs.Transactions.{Kept, mark_of, tested_of}
use Rattle.sb_tenant.specs.declared.phase.Phase.TheVariants.{Closed}
use Rattle.sb_tenant.specs.declared.reply.Answer.{Answer}
use Rattle.sb_tenant.specs.declared.reply.Entry.{Entry}
use Rattle.sb_tenant.specs.declared.reply.Reply.{Reply}
use Rattle.sb_tenant.specs.declared.reply.Reply.TheVariants as reply
use Rattle.sb_tenant.specs.declared.store.Store.{Store}
use Rattle.sb_tenant.specs.Limits.{entry_limit, is_session, trail_limit}
use Rattle.sb_tenant.specs.Logged.{Agrees}
use Rattle.sb_tenant.specs.declared.tenant.Tenant.TheInside.{Inside}
use Rattle.sb_tenant.specs.Remembered.{IsRemembered, number_limit, seen}
use Rattle.sb_tenant.specs.Represents.{Holds, Leaves, StandFor, Performs, phase_of}
use Rattle.sb_tenant.specs.Resolved as resolved
use Rattle.sb_tenant.specs.State.{State, Session, closed, idle, active, session_at, is_open, open_count, with_session, rolled_back}
use Rattle.sb_tenant.specs.Step.{first_of, is_full_for, is_end_of_open, numbered, outcome_of, reply_to, reply_to_command, step}
use Rattle.sb_tenant.specs.Tenant.{Tenant, IsLegal, IsSame, MakesStep, state}
use Rattle.sb_tenant.specs.Lending.{HoldNothing, InStep, StaysInStep}
use Rattle.sb_tenant.specs.Trail.{after_abort, IsNext, state_of, IsTrail, entry_of}
use Rattle.sb_tenant.proofs.Extensions.{step-numbered, step_is_next, abort_is_next, extended, state_of-extended}
use Rattle.sb_tenant.proofs.ReplayLaws.{ends as end_is_command, legal_states_are_replayed, open-ended, open_at_most, trails_are_bounded}

-- the line `open` is that command
open_is_open : command_of (codes "open") ≡ Some open_session
unfolding command_of
open_is_open = refl

-- ---- the lines `end` and `open`

module _ (id : ℕ) (bound : Bound) (st : State) (s : ℕ) where
  abbrev by_command : Option Command → State × Reply
  by_command c = elim c [ None ↦ (st, reply.No refusal.Syntax) | Some command ↦ reply_to_command id bound st s command ]

  pub ends : is_open (session_at st s) ≡ true → reply_to id bound st s (codes "end") ≡ (with_session (rolled_back st s) s closed, reply.Ok)
  ends up = (λ i. by_command (end_is_command i)) ∙ (λ i. outcome_of id bound st s (first_of (not (up i)) refusal.NotOpen None) (Ok resolved.end_session))

  pub opens : is_open (session_at st s) ≡ false → reply_to id bound st s (codes "open") ≡ (with_session st s idle, reply.Ok)
  opens shut = (λ i. by_command (open_is_open i)) ∙ (λ i. outcome_of id bound st s (first_of (shut i) refusal.AlreadyOpen None) (Ok resolved.open_session))

pub end_has_room : (st : State) (s : ℕ) → is_open (session_at st s) ≡ true → is_full_for st s (codes "end") ≡ false
end_has_room st s up = ap (λ b. nat_le trail_limit st.steps && not (b && true)) up ∙ and-false (nat_le trail_limit st.steps)

pub open_has_room : (st : State) (s : ℕ) (line : List ℕ) → nat_le trail_limit st.steps ≡ false → is_full_for st s line ≡ false
open_has_room st s line room = ap (λ b. b && not (is_end_of_open st s line)) room

-- ---- the next entry

-- the number of steps isn't kept in memory
restepped_store : (store : Store) (st : State) (n : ℕ) → (origin : List Held) × Holds origin store st → (origin : List Held) × Holds origin store (record st { steps = n })
restepped_store store st n (origin, h) = (
  origin,
  record {
    committed = h.committed;
    made = h.made;
    locked = h.locked;
    exclusive = h.exclusive;
    locks = h.locks;
    phases = h.phases;
    candidates = h.candidates;
    rules = h.rules;
    ordered = h.ordered;
    rulesets = h.rulesets;
    runnable = h.runnable;
  },
)

restepped : (store : Store) (records : List Record) (clock : ℕ) (index : List (List TableSets)) (st : State) (n : ℕ) → StandFor store records clock index st → StandFor store records clock index (record st { steps = n })
restepped store records clock index st n (h, agrees) =
    (restepped_store store st n h, record { transactions = agrees.transactions; marks = agrees.marks; past = agrees.past; untriggered = agrees.untriggered; indexed = agrees.indexed })

-- a trail with one more entry, and the state after it, for which memory, the log and the index stand
pub record IsEntered (id : ℕ) (bound : Bound) (trail : List Entry) (s : ℕ) (line : List ℕ) (told : Reply) (store : Store) (records : List Record) (clock : ℕ) (index : List (List TableSets)) (after : State) : Type 0 where
  pub legal : IsTrail id bound (trail ++ entry_of s line told ∷ [])
  pub state : state_of id bound (trail ++ entry_of s line told ∷ []) ≡ after
  pub next : IsNext id bound (state_of id bound trail) (entry_of s line told) after
  pub stands : StandFor store records clock index after

module _ (id : ℕ) (bound : Bound) (trail : List Entry) (legal : IsTrail id bound trail) (s : ℕ) (line : List ℕ) (is_one : is_session s ≡ true) (room : is_full_for (state_of id bound trail) s line ≡ false)
    (told : Reply) (store : Store) (records : List Record) (clock : ℕ) (index : List (List TableSets)) where
  abbrev now : State
  now = state_of id bound trail

  abbrev Entered : State → Type 0
  Entered after = IsEntered id bound trail s line told store records clock index after

  entered : (after : State) → IsNext id bound now (entry_of s line told) after → StandFor store records clock index after → Entered after
  entered after next stands = record {
    legal = extended id bound trail legal s line told after next;
    state = state_of-extended id bound trail legal s line told after next;
    next = next;
    stands = stands;
  }

  -- an answered line is the next entry
  pub answered : (meant : State × Reply) → reply_to id bound now s line ≡ meant → told ≡ meant.1 → StandFor store records clock index meant.0 → Entered (record meant.0 { steps = now.steps + 1 })
  answered meant is told_is stands =
      let numbers : step id bound now s line ≡ numbered now meant = step-numbered id bound now s line room ∙ ap (numbered now) is in
      let next = subst (λ (r : State × Answer). IsNext id bound now (entry_of s line r.1.reply) r.0) numbers (step_is_next id bound now s line is_one room) in
      entered (record meant.0 { steps = now.steps + 1 })
      (subst (λ (r : Reply). IsNext id bound now (entry_of s line r) (record meant.0 { steps = now.steps + 1 })) (sym told_is) next)
      (restepped store records clock index meant.0 (now.steps + 1) stands)

  -- and so is an abort
  pub performed : is_end_of_open now s line ≡ false → Performs store records clock index now s (reply_to id bound now s line) told → (after : State) × Entered after
  performed no_end (inl (told_is, stands)) = (record (reply_to id bound now s line).0 { steps = now.steps + 1 }, answered (reply_to id bound now s line) refl told_is stands)
  performed no_end (inr (told_is, stands)) = (
    after_abort now s,
    entered (after_abort now s)
        (subst (λ (r : Reply). IsNext id bound now (entry_of s line r) (after_abort now s)) (sym told_is) (abort_is_next id bound now s line is_one room no_end))
        (restepped store records clock index _ (now.steps + 1) stands),
  )

-- ---- the tenant's value

module _ (t new : Tenant) (same : IsSame t new) (s : ℕ) (line : List ℕ) (told : Reply) (store : Store) (records : List Record) (clock : ℕ) (index : List (List TableSets)) (after : State)
    (longer : new.trail ≡ t.trail ++ entry_of s line told ∷ []) (e : IsEntered t.id t.bound t.trail s line told store records clock index after) where
  pub new_state : state new ≡ after
  new_state = (λ i. state_of (same.0 i) (same.1 i) (longer i)) ∙ e.state

  pub new_legal : IsLegal new
  new_legal =
      subst (λ (es : List Entry). IsTrail new.id new.bound es) (sym longer)
      (subst (λ (b : Bound). IsTrail new.id b (t.trail ++ entry_of s line told ∷ [])) (sym same.1)
      (subst (λ (i : ℕ). IsTrail i t.bound (t.trail ++ entry_of s line told ∷ [])) (sym same.0) e.legal))

  pub new_agrees : Agrees store.database.id (state new) store.database.transactions records clock index
  new_agrees = subst (λ (st : State). Agrees store.database.id st store.database.transactions records clock index) (sym new_state) e.stands.1

  pub made : (number : ℕ) → number ≡ length new.trail → MakesStep t s line (record { number = Some number; reply = told }) new
  made number is = (
    same,
    (
      longer,
      ap Some is,
      subst (λ (st : State). IsNext t.id t.bound (state t) (entry_of s line told) st) (sym (ap (state_of t.id t.bound) longer ∙ e.state)) e.next,
    ),
  )

-- ---- numbers

-- a trail's length is bounded, and is the number of its steps
pub few_entries : (t : Tenant) → IsLegal t → length t.trail ≤ entry_limit
few_entries t legal =
    let bounded = trails_are_bounded t.id t.bound t.trail (state t) legal in omega (arith, bounded)

pub steps_are_entries : (t : Tenant) → IsLegal t → (state t).steps ≡ length t.trail
steps_are_entries t legal = (legal_states_are_replayed t.id t.bound t.trail (state t) legal).1

-- the tables' next numbers stay below 2^63
pub few_numbers : (n : ℕ) → n ≤ entry_limit → number_limit n ≤ 2 ^ 63
few_numbers n h = omega arith

-- and rise with the steps
pub grown : (old new : List Held) (n by : ℕ) → by ≤ 32768000 → ((m : ℕ) → number_limit n ≤ m → NumbersBelow m old) → ((m : ℕ) → NumbersBelow m old → NumbersBelow (m + by) new) →
    (m : ℕ) → number_limit (n + 1) ≤ m → NumbersBelow m new
grown old new n by few before rises m h =
    let is : m - by + by ≡ m = omega arith in
    let enough : number_limit n ≤ m - by = omega arith in
    subst (λ (k : ℕ). NumbersBelow k new) is (rises (m - by) (before (m - by) enough))

-- ---- whether a session is open

pub phase_closed : (session : Session) → is_open session ≡ false → phase_of session ≡ Closed
phase_closed closed h = refl
phase_closed idle h = cc
phase_closed (active changes marks) h = cc

-- ---- before the first step

pub none_before : (time : ℕ) → length (before time []) ≡ 0
unfolding before
none_before time = refl

pub new_in_step : (id : ℕ) (bound : Bound) (kept : Kept) → ((s r : ℕ) → mark_of kept s r ≡ 0) → ((s r : ℕ) → tested_of kept s r ≡ 0) → (records : List Record) (clock : ℕ) (index : List (List TableSets)) → HoldNothing id records index →
    Agrees id (state_of id bound []) kept records clock index
new_in_step id bound kept marks tested records clock index nothing = record {
  transactions = λ s is_one. ap changes (nothing.0 s);
  marks = λ s is_one rule. let none = marks s rule in (omega (arith, none), ap (λ (rs : List Record). length (before (mark_of kept s rule) rs)) (nothing.0 s) ∙ none_before (mark_of kept s rule));
  past = λ s is_one rule. let m = marks s rule in let t = tested s rule in (omega arith, omega arith);
  untriggered = λ s is_one. tt;
  indexed = nothing.1;
}

-- ---- what a call leaves in memory

-- one entry more
module _ (t new : Inside) (r : IsRemembered t) (same : IsSame (seen t) (seen new)) (s : ℕ) (line : List ℕ) (told : Reply) (longer : (seen new).trail ≡ (seen t).trail ++ entry_of s line told ∷ []) where
  pub remembered : IsLegal (seen new) → (after : State) → state (seen new) ≡ after → (origin : List Held) × Holds origin new.store after → (by : ℕ) → by ≤ 32768000 →
      ((m : ℕ) → NumbersBelow m t.store.database.tables → NumbersBelow (m + by) new.store.database.tables) → vec_len new.trail + open_count after ≤ vec_capacity new.trail → open_count after ≤ new.end_lines → IsRemembered new
  remembered legal after now_is holds by few rises places ends = record {
    legal = legal;
    holds = subst (λ (st : State). (origin : List Held) × Holds origin new.store st) (sym now_is) holds;
    bound = subst (λ (b : Bound). b.considerations ≤ 1000) (sym same.1) r.bound;
    numbers = λ m enough.
        grown t.store.database.tables new.store.database.tables (length t.trail.items) by few r.numbers rises m
        (subst (λ (k : ℕ). number_limit k ≤ m) (ap length longer ∙ length-append (seen t).trail (entry_of s line told ∷ [])) enough);
    places = subst (λ (st : State). vec_len new.trail + open_count st ≤ vec_capacity new.trail) (sym now_is) places;
    ends = subst (λ (st : State). open_count st ≤ new.end_lines) (sym now_is) ends;
  }

-- none, but perhaps more room
pub still_remembered : (t new : Inside) → IsRemembered t → new.bound ≡ t.bound → new.volume ≡ t.volume → new.store ≡ t.store → new.trail.items ≡ t.trail.items → vec_len new.trail ≡ vec_len t.trail → vec_capacity t.trail ≤ vec_capacity new.trail →
    t.end_lines ≤ new.end_lines → IsRemembered new
still_remembered t new r bound volume store items len capacity ends = record {
  legal = subst IsLegal (sym seen_is) r.legal;
  holds = subst (λ (x : Store × Tenant). (origin : List Held) × Holds origin x.0 (state x.1)) (λ i. (sym store i, sym seen_is i)) r.holds;
  bound = subst (λ (b : Bound). b.considerations ≤ 1000) (sym bound) r.bound;
  numbers = λ m enough. subst (λ (kept : Store). NumbersBelow m kept.database.tables) (sym store) (r.numbers m (subst (λ (es : List Entry). number_limit (length es) ≤ m) items enough));
  places = let same_count = ap (λ (v : Tenant). open_count (state v)) seen_is in omega (arith, same_count, r.places);
  ends = let same_count = ap (λ (v : Tenant). open_count (state v)) seen_is in omega (arith, same_count, r.ends);
}
  where
    seen_is : seen new ≡ seen t
    seen_is = λ i. record { id = (store i).database.id; bound = bound i; trail = items i; volume = volume i; transactions = (store i).database.transactions }

-- ---- the calls of a tenant

-- a line that is answered
module _ (t new : Inside) (r : IsRemembered t) (same : IsSame (seen t) (seen new)) (s : ℕ) (line : List ℕ) (told : Reply) (records records' : List Record) (clock clock' : ℕ) (index index' : List (List TableSets)) (after : State)
    (n : ℕ) (leaves : Leaves n t.store new.store s records records' clock clock') (longer : (seen new).trail ≡ (seen t).trail ++ entry_of s line told ∷ [])
    (e : IsEntered (seen t).id (seen t).bound (seen t).trail s line told new.store records' clock' index' after) where
  pub entered_in_step : OtherTenantsStay t.store.database.id index index' → StaysInStep n (seen t) (seen new) s records records' clock clock' index index'
  entered_in_step tenants = record {
    in_step = new_agrees (seen t) (seen new) same s line told new.store records' clock' index' after longer e;
    others = leaves.others;
    rises = leaves.times;
    tenants = tenants;
  }

  pub entered_legal : IsLegal (seen new)
  entered_legal = new_legal (seen t) (seen new) same s line told new.store records' clock' index' after longer e

  pub entered_remembered : n ≤ 32768000 → vec_len new.trail + open_count after ≤ vec_capacity new.trail → open_count after ≤ new.end_lines → IsRemembered new
  entered_remembered few places at_hand =
      remembered t new r same s line told longer entered_legal after (new_state (seen t) (seen new) same s line told new.store records' clock' index' after longer e) e.stands.0 n few leaves.numbers places at_hand

  pub entered_made : (number : ℕ) → number ≡ length new.trail.items → MakesStep (seen t) s line (record { number = Some number; reply = told }) (seen new)
  entered_made = made (seen t) (seen new) same s line told new.store records' clock' index' after longer e

-- the end of an open session
module _ (t new : Inside) (r : IsRemembered t) (s : ℕ) (is_one : is_session s ≡ true) (up : is_open (session_at (state (seen t)) s) ≡ true) (records records' : List Record) (clock clock' : ℕ)
    (stands : (index : List (List TableSets)) (st : State) → StandFor t.store records clock index st → StandFor new.store records' clock' index (with_session (rolled_back st s) s closed)) where
  abbrev pub ended_state : State
  ended_state = record (with_session (rolled_back (state (seen t)) s) s closed) { steps = (state (seen t)).steps + 1 }

  pub ended : (index : List (List TableSets)) → InStep (seen t) records clock index → IsEntered (seen t).id (seen t).bound (seen t).trail s (codes "end") reply.Ok new.store records' clock' index ended_state
  ended index in_step =
      answered (seen t).id (seen t).bound (seen t).trail r.legal s (codes "end") is_one (end_has_room (state (seen t)) s up) reply.Ok new.store records' clock' index
      (with_session (rolled_back (state (seen t)) s) s closed, reply.Ok) (ends (seen t).id (seen t).bound (state (seen t)) s up) refl (stands index (state (seen t)) (r.holds, in_step))

  pub ended_fewer : open_count ended_state + 1 ≡ open_count (state (seen t))
  ended_fewer = open-ended (state (seen t)) s is_one up

-- the opening of a closed session
module _ (t new : Inside) (r : IsRemembered t) (same : IsSame (seen t) (seen new)) (s : ℕ) (is_one : is_session s ≡ true) (shut : is_open (session_at (state (seen t)) s) ≡ false) (room : nat_le trail_limit (state (seen t)).steps ≡ false)
    (longer : new.trail.items ≡ t.trail.items ++ entry_of s (codes "open") reply.Ok ∷ []) where
  abbrev now_open : State
  now_open = record (with_session (state (seen t)) s idle) { steps = (state (seen t)).steps + 1 }

  open_next : IsNext (seen t).id (seen t).bound (state (seen t)) (entry_of s (codes "open") reply.Ok) now_open
  open_next =
      let here = open_has_room (state (seen t)) s (codes "open") room in
      let is = step-numbered (seen t).id (seen t).bound (state (seen t)) s (codes "open") here ∙ ap (numbered (state (seen t))) (opens (seen t).id (seen t).bound (state (seen t)) s shut) in
      subst (λ (a : State × Answer). IsNext (seen t).id (seen t).bound (state (seen t)) (entry_of s (codes "open") a.1.reply) a.0) is (step_is_next (seen t).id (seen t).bound (state (seen t)) s (codes "open") is_one here)

  open_now : state (seen new) ≡ now_open
  open_now = (λ i. state_of (same.0 i) (same.1 i) (longer i)) ∙ state_of-extended (seen t).id (seen t).bound (seen t).trail r.legal s (codes "open") reply.Ok now_open open_next

  pub opened_legal : IsLegal (seen new)
  opened_legal =
      let trail = extended (seen t).id (seen t).bound (seen t).trail r.legal s (codes "open") reply.Ok now_open open_next in
      subst (λ (es : List Entry). IsTrail (seen new).id (seen new).bound es) (sym longer)
      (subst (λ (b : Bound). IsTrail (seen new).id b ((seen t).trail ++ entry_of s (codes "open") reply.Ok ∷ [])) (sym same.1)
      (subst (λ (i : ℕ). IsTrail i (seen t).bound ((seen t).trail ++ entry_of s (codes "open") reply.Ok ∷ [])) (sym same.0) trail))

  pub opened_made : (number : ℕ) → number ≡ length new.trail.items → MakesStep (seen t) s (codes "open") (record { number = Some number; reply = reply.Ok }) (seen new)
  opened_made number is = (
    same,
    (
      longer,
      ap Some is,
      subst (λ (st : State). IsNext (seen t).id (seen t).bound (state (seen t)) (entry_of s (codes "open") reply.Ok) st)
          (sym (ap (state_of (seen t).id (seen t).bound) longer ∙ state_of-extended (seen t).id (seen t).bound (seen t).trail r.legal s (codes "open") reply.Ok now_open open_next)) open_next,
    ),
  )

  pub opened_remembered : ((origin : List Held) (st : State) → Holds origin t.store st → Holds origin new.store (with_session st s idle)) → new.store.database ≡ t.store.database →
      vec_len new.trail + 8 ≤ vec_capacity new.trail → 8 ≤ new.end_lines → IsRemembered new
  opened_remembered holds database places at_hand =
      let few = open_at_most now_open in
      let zero_more : (m : ℕ) → NumbersBelow m t.store.database.tables → NumbersBelow (m + 0) new.store.database.tables =
      λ m below. subst (λ (k : ℕ). NumbersBelow k new.store.database.tables) (sym_zero m) (subst (λ (d : Database). NumbersBelow m d.tables) (sym database) below) in
      remembered t new r same s (codes "open") reply.Ok longer opened_legal now_open open_now (restepped_store new.store (with_session (state (seen t)) s idle) ((state (seen t)).steps + 1) (r.holds.0, holds r.holds.0 (state (seen t)) r.holds.1)) 0
      (omega arith) zero_more (omega arith) (omega arith)
    where
      sym_zero : (m : ℕ) → m ≡ m + 0
      sym_zero m = omega arith

  pub opened_in_step : ((records : List Record) (clock : ℕ) (index : List (List TableSets)) (st : State) → StandFor t.store records clock index st → StandFor new.store records clock index (with_session st s idle)) →
      (records : List Record) (clock : ℕ) (index : List (List TableSets)) → InStep (seen t) records clock index → InStep (seen new) records clock index
  opened_in_step opened records clock index in_step =
      let stands = restepped new.store records clock index (with_session (state (seen t)) s idle) ((state (seen t)).steps + 1) (opened records clock index (state (seen t)) (r.holds, in_step)) in
      subst (λ (st : State). Agrees new.store.database.id st new.store.database.transactions records clock index) (sym open_now) stands.1
