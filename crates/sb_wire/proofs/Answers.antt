-- An event's answer is the answer to its line.
use Rattle.std.proofs.Common.{◌≡◌, ℕ, Bool, true, false, cond, ◌&&◌, ◌==◌, nat_lt, List, [], ◌∷◌, Option, Some, None, Result, Ok, Err, inl, inr, refl, sym, ap, ◌∙◌, codes, ◌⊎◌, IsTrue, IsFalse, ◌/◌, ◌%◌}
use Rattle.std.specs.Prelude.{OnOk}
use Rattle.std.specs.Fmt.{digits}
use Rattle.std.proofs.lemmas.Bool.{eqb-true}
use Rattle.sb_tenant.specs.declared.bound.Bound.{Bound}
use Rattle.sb_value.specs.declared.refusal.Refusal.TheVariants.{NoMemory, TrailFull}
use Rattle.sb_tenant.specs.declared.reply.Answer.{Answer}
use Rattle.sb_tenant.specs.declared.reply.Entry.{Entry}
use Rattle.sb_tenant.specs.declared.reply.Reply.{Reply}
use Rattle.sb_tenant.specs.declared.reply.Reply.TheVariants.{No}
use Rattle.sb_tenant.specs.Limits.{is_session}
use Rattle.sb_tenant.specs.State.{State}
use Rattle.sb_tenant.specs.Step.{step, is_full_for, numbered, reply_to}
use Rattle.sb_tenant.specs.Trail.{after_abort, MayAbort, state_of}
use Rattle.sb_cell.specs.declared.StepError.{StepError}
use Rattle.sb_cell.specs.declared.StepError.TheVariants.{NoTenant, NoSession, NotBegun}
use Rattle.sb_cell.specs.Events.{IsTurn}
use Rattle.sb_cell.specs.Tenants.{Cell, hosts as hosts_of, trails, tenant_at, trail_of, AnswersBy, AnswersEvent, IsSame}
use Rattle.sb_wire.specs.Lines.{line, Addressed, addressed_of}
use Rattle.sb_wire.specs.ReplyText.{reply_lines}
use Rattle.sb_wire.specs.Output.{with_state, prefixed, address, no_address, answer_text, reply_to_line, IsAnswer, IsAborted, IsNotBegun}
use Rattle.sb_wire.specs.Stream.{states}

-- the reply of an abort
no_memory_line : reply_lines (No NoMemory) ≡ codes "no 91 NoMemory" ∷ []
unfolding digits
no_memory_line = refl

-- one tenant's state is another, and the others' are the same
same_but : (before after : ℕ → State) (t : ℕ) (new : State) → after t ≡ new → ((u : ℕ) → (u == t) ≡ false → after u ≡ before u) → after ≡ with_state before t new
same_but before after t new own others = λ i u. by_test u (u == t) refl i
  where
    by_test : (u : ℕ) (b : Bool) → (u == t) ≡ b → after u ≡ cond b new (before u)
    by_test u true same = ap after (eqb-true u t same) ∙ own
    by_test u false other = others u other

all_same : (before after : ℕ → State) (t : ℕ) → after t ≡ before t → ((u : ℕ) → (u == t) ≡ false → after u ≡ before u) → after ≡ before
all_same before after t own others = λ i u. by_test u (u == t) refl i
  where
    by_test : (u : ℕ) (b : Bool) → (u == t) ≡ b → after u ≡ before u
    by_test u true same = let is = eqb-true u t same in ap after is ∙ own ∙ ap before (sym is)
    by_test u false other = others u other

-- a full trail refuses the line
full_step : (t : ℕ) (bound : Bound) (state : State) (s : ℕ) (l : List ℕ) → is_full_for state s l ≡ true → step t bound state s l ≡ (state, record { number = None; reply = No TrailFull })
full_step t bound state s l full = ap placed full
  where
    placed : Bool → State × Answer
    placed b = elim b [ true ↦ (state, record { number = None; reply = No TrailFull }) | false ↦ numbered state (reply_to t bound state s l) ]

-- the same tenants are hosted
pub same_hosts : (old new : Cell) → IsSame old new → hosts_of new ≡ hosts_of old
same_hosts old new (first, stride, bound, count) = λ i t. (t % stride i == first i) && nat_lt (t / stride i) (count i)

-- and again
pub same_again : (one two three : Cell) → IsSame one two → IsSame two three → IsSame one three
same_again one two three (first, stride, bound, count) (first', stride', bound', count') = (first' ∙ first, stride' ∙ stride, bound' ∙ bound, count' ∙ count)

-- by whether the cell hosts the tenant, and whether the session is one
abbrev reply_by : Bound → Bool → Bool → (ℕ → State) → Addressed → List ℕ × (ℕ → State)
reply_by bound hosted is_one states a =
    elim hosted [
      | false ↦ (prefixed (address a) (codes "no 13 NoTenant" ∷ []), states)
      | true ↦ elim is_one [
        | false ↦ (prefixed (address a) (codes "no 14 NoSession" ∷ []), states)
        | true ↦ let r = step a.tenant bound (states a.tenant) a.session a.command in
            (prefixed (address a) (reply_lines r.1.reply), with_state states a.tenant r.0)
      ]
    ]

-- the event of an addressed line
module _ (a : Addressed) (old new : Cell) where
  -- the text is the definition's, or memory ran out
  abbrev Answers : Bool → Bool → List ℕ → Type 0
  Answers hosted is_one text =
      (reply_by old.bound hosted is_one (states old) a ≡ (text, states new))
      ⊎ ((IsTrue hosted × IsTrue is_one × MayAbort (states old a.tenant) a.session a.command)
      × (IsAborted (hosts_of old) old.bound (states old) a text (states new) ⊎ IsNotBegun (hosts_of old) old.bound (states old) a text (states new)))

  -- the tenant's state after it is that of its new trail
  own_state : IsSame old new → states new a.tenant ≡ state_of a.tenant old.bound (trails new a.tenant)
  own_state (first, stride, bound, count) = ap (λ (b : Bound). state_of a.tenant b (trails new a.tenant)) bound

  module _ (others : (u : ℕ) → IsFalse (u == a.tenant) → tenant_at new u ≡ tenant_at old u) (same : IsSame old new) where
    other_states : (u : ℕ) → (u == a.tenant) ≡ false → states new u ≡ states old u
    other_states u other =
        let is = others u other in λ i. state_of u (same.2 i) (trail_of (is i))

    -- a step with this reply
    stepped : (x : Answer) (number : Option ℕ) → step a.tenant old.bound (states old a.tenant) a.session a.command ≡ (state_of a.tenant old.bound (trails new a.tenant), record { number = number; reply = x.reply }) → Answers true true (answer_text a (Ok x))
    stepped x number is =
        inl (
        (λ i. (prefixed (address a) (reply_lines (is i).1.reply), with_state (states old) a.tenant (is i).0))
        ∙ (λ i. (prefixed (address a) (reply_lines x.reply), sym (same_but (states old) (states new) a.tenant (state_of a.tenant old.bound (trails new a.tenant)) (own_state same) other_states) i))
        )

    -- no change of the trail
    unchanged : trails new a.tenant ≡ trails old a.tenant → states new ≡ states old
    unchanged is = all_same (states old) (states new) a.tenant (own_state same ∙ ap (λ (trail : List Entry). state_of a.tenant old.bound trail) is) other_states

    turn : (given : Result Answer StepError) → IsTurn old.bound a.tenant (trails old a.tenant) (a.session, a.command) given (trails new a.tenant) → Answers true true (answer_text a given)
    turn (Ok x) (inl (is, number, (one, inl (fine, step_is)))) = stepped x _ step_is
    turn (Ok x) (inl (is, number, (one, inr (told, aborted, may)))) =
        inr (
          (refl, refl, may),
          inl (
            ap (λ (r : Reply). prefixed (address a) (reply_lines r)) told ∙ ap (prefixed (address a)) no_memory_line,
            same_but (states old) (states new) a.tenant (after_abort (states old a.tenant) a.session) (own_state same ∙ aborted) other_states,
          ),
        )
    turn (Ok x) (inr (full, told, is)) =
        inl (
        (λ i. (prefixed (address a) (reply_lines (full_step a.tenant old.bound (states old a.tenant) a.session a.command full i).1.reply), with_state (states old) a.tenant (full_step a.tenant old.bound (states old a.tenant) a.session a.command full i).0))
        ∙ (λ i. (prefixed (address a) (reply_lines (sym told i).reply), sym (same_but (states old) (states new) a.tenant (states old a.tenant) (ap (λ (f : ℕ → State). f a.tenant) (unchanged is)) other_states) i))
        )
    turn (Err NotBegun) (is, may) = inr ((refl, refl, may), inr (refl, unchanged is))
    turn (Err NoTenant) t = absurd t
    turn (Err NoSession) t = absurd t

  by_tests : (hosted is_one : Bool) (given : Result Answer StepError) → AnswersBy hosted is_one old a.tenant a.session a.command given new → Answers hosted is_one (answer_text a given)
  by_tests false is_one given (told, is) = inl (λ i. (answer_text a (sym told i), states (sym is i)))
  by_tests true false given (told, is) = inl (λ i. (answer_text a (sym told i), states (sym is i)))
  by_tests true true given (own, others, same) = turn others same given own

  -- by what the line's numbers are
  abbrev reply_found : Option Addressed → List ℕ × (ℕ → State)
  reply_found found = elim found [
    | None ↦ (prefixed no_address (codes "no 12 BadLine" ∷ []), states old)
    | Some b ↦ reply_to_line (hosts_of old) old.bound (states old) b
  ]

  -- an addressed line is answered by its event
  pub addressed_answer : (bytes : List ℕ) (given : Result Answer StepError) → addressed_of bytes ≡ Some a → AnswersEvent old a.tenant a.session a.command given new
      → IsAnswer (hosts_of old) old.bound (states old) (line bytes) (answer_text a given) (states new)
  addressed_answer bytes given is event =
      by_answer (by_tests (hosts_of old a.tenant) (is_session a.session) given event)
    where
      by_answer : Answers (hosts_of old a.tenant) (is_session a.session) (answer_text a given) → IsAnswer (hosts_of old) old.bound (states old) (line bytes) (answer_text a given) (states new)
      by_answer (inl told) = inl (ap reply_found is ∙ told)
      by_answer (inr short) = inr (a, is, short.0, short.1)

-- ---- what holds where a call succeeds

pub on_ok : {T E A B : Type 0} (r : Result T E) → (A → B) → OnOk r A → OnOk r B
on_ok (Ok x) f a = f a
on_ok (Err e) f a = a
