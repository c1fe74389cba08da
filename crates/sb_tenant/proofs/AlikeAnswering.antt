-- A line, and lists of lines: each of two alike states is answered as the state that both come from.
use Rattle.std.proofs.Common.{◌≡◌, ◌∙◌, ℕ, zero, suc, ◌+◌, ◌<◌, ◌≤◌, Bool, true, false, not, ◌&&◌, nat_eq, List, [], ◌∷◌, length, inl, inr, Option, Some, None, Result, Ok, Err, refl, sym, ap, subst, eqb-true, arith, IsTrue}
use Rattle.std.proofs.lemmas.Bool.{lt-leb}
use Rattle.std.proofs.lemmas.List.Elements.{All-head, All-tail}
use Rattle.sb_tenant.specs.declared.bound.Bound.{Bound}
use Rattle.sb_value.specs.declared.refusal.Refusal.{Refusal}
use Rattle.sb_value.specs.declared.refusal.Refusal.TheVariants as refusal
use Rattle.sb_value.specs.Laws.{PrecedesIsClosure}
use Rattle.sb_catalog.specs.Rules.{IsLeastFree, least_free}
use Rattle.sb_syntax.specs.Text.{command_of}
use Rattle.sb_syntax.specs.Tree.{Command}
use Rattle.sb_tenant.proofs.Sharing.{each-session}
use Rattle.sb_tenant.specs.declared.reply.Answer.{Answer}
use Rattle.sb_tenant.specs.declared.reply.Reply.{Reply}
use Rattle.sb_tenant.specs.declared.reply.Reply.TheVariants as reply
use Rattle.sb_tenant.specs.Limits.{is_session, trail_limit}
use Rattle.sb_tenant.specs.State.{State, Session, session_at, is_open, has_transaction, another_has_transaction}
use Rattle.sb_tenant.specs.Resolved.{Resolved, Class, defines}
use Rattle.sb_tenant.specs.Step.{is_full_for, is_end_of_open, refusal_by, session_refusal, numbered, outcome_of, reply_to_command, reply_to, step}
use Rattle.sb_tenant.specs.Walk.{class_of, walk}
use Rattle.sb_tenant.specs.AlikeTenants.{Numbering, IsRenumbered, AreAlike}
use Rattle.sb_tenant.specs.AlikeLaws.{AlikeAnswerAlike}
use Rattle.sb_tenant.proofs.Commands.{IsSame, Gives, walk-same, gives-walk}
use Rattle.sb_tenant.proofs.Pairs.{AreSame}
use Rattle.sb_tenant.proofs.Performing.{IsAnswered, IsCalm, remade, perform-same}
use Rattle.sb_tenant.proofs.States.{IsMade, from-renumbered, to-renumbered, steps-made, is-open-same, has-same, another-same}

-- ---- no session has a transaction where something is defined

calm-of : (state : State) (s : ℕ) → session_refusal defines state s ≡ None → IsCalm state
calm-of state s e o io = by (nat_eq o s) refl
  where
    split : (opened own another : Bool) → refusal_by defines opened own another ≡ None → (own ≡ false) × (another ≡ false)
    split true false false p = (refl, refl)
    split opened own another p = absurd (cc)

    found : (has_transaction (session_at state s) ≡ false) × (another_has_transaction state s ≡ false)
    found = split (is_open (session_at state s)) (has_transaction (session_at state s)) (another_has_transaction state s) e

    by : (b : Bool) → nat_eq o s ≡ b → has_transaction (session_at state o) ≡ false
    by true p = ap (λ k. has_transaction (session_at state k)) (eqb-true o s p) ∙ found.0
    by false p =
        ap (λ b. not b && has_transaction (session_at state o)) (sym p)
        ∙ each-session (λ x. not (nat_eq x s) && has_transaction (session_at state x)) o io found.1

-- ---- a line

module _ (law : PrecedesIsClosure) (free : (used : List ℕ) → IsLeastFree used (least_free used)) (first tenant : ℕ) (bound : Bound) where
  module _ (n : Numbering) (one : State) (pairs : List (ℕ × ℕ)) (sess : ℕ → Session) (steps : ℕ) (made : IsMade tenant n one (remade n one pairs sess steps)) (s : ℕ) (is : IsTrue (is_session s)) where
    abbrev other : State
    other = remade n one pairs sess steps

    outcome-same : (o : Option Refusal) (v w : Result Resolved Refusal) → AreSame IsSame v w → (o ≡ None → Gives (IsCalm one) w) →
        IsAnswered tenant (outcome_of first bound one s o w) (outcome_of tenant bound other s o v)
    outcome-same (Some e) v w h f = (n, made, refl)
    outcome-same None (Err d) (Err e) h f = (n, made, ap reply.No h)
    outcome-same None (Ok d) (Ok c) h f = perform-same law first tenant bound n one pairs sess steps made s is free d c h (f refl)
    outcome-same None (Ok d) (Err e) h f = elim h [ ]
    outcome-same None (Err d) (Ok c) h f = elim h [ ]

    refusal-same : (class : Class) → session_refusal class other s ≡ session_refusal class one s
    refusal-same class = λ i. refusal_by class (is-open-same tenant n one other made s is i) (has-same tenant n one other made s is i) (another-same tenant n one other made s i)

    command-same : (c : Command) → IsAnswered tenant (reply_to_command first bound one s c) (reply_to_command tenant bound other s c)
    command-same c =
        subst (λ o. IsAnswered tenant (reply_to_command first bound one s c) (outcome_of tenant bound other s o (walk other.catalog c))) (sym (refusal-same (class_of c)))
        (outcome-same (session_refusal (class_of c) one s) (walk other.catalog c) (walk one.catalog c) (walk-same law n one.catalog pairs made.catalog.pairs c)
        (λ none. gives-walk (IsCalm one) one.catalog c (λ e. calm-of one s ((λ i. session_refusal (sym e i) one s) ∙ none))))

    line-same : (line : List ℕ) → IsAnswered tenant (reply_to first bound one s line) (reply_to tenant bound other s line)
    line-same line = by (command_of line)
      where
        by : (o : Option Command) → IsAnswered tenant
            (elim o as (λ _. State × Reply) [ None ↦ (one, reply.No refusal.Syntax) | Some command ↦ reply_to_command first bound one s command ])
            (elim o as (λ _. State × Reply) [ None ↦ (other, reply.No refusal.Syntax) | Some command ↦ reply_to_command tenant bound other s command ])
        by None = (n, made, refl)
        by (Some command) = command-same command

  line-made : (n : Numbering) (one other : State) → IsMade tenant n one other → (s : ℕ) → IsTrue (is_session s) → (line : List ℕ) →
      IsAnswered tenant (reply_to first bound one s line) (reply_to tenant bound other s line)
  line-made n one other made s is line =
      subst (λ x. IsAnswered tenant (reply_to first bound one s line) (reply_to tenant bound x s line)) (sym same)
      (line-same n one other.catalog.pairs other.sessions other.steps (subst (IsMade tenant n one) same made) s is line)
    where
      same : other ≡ remade n one other.catalog.pairs other.sessions other.steps
      same = λ i. record {
        catalog = record { tables = made.catalog.tables i; rules = made.catalog.rules i; rulesets = made.catalog.rulesets i; pairs = other.catalog.pairs };
        locks = made.locks i;
        sessions = other.sessions;
        steps = other.steps;
      }

-- ---- a step

not-full : (state : State) (s : ℕ) (line : List ℕ) → state.steps < trail_limit → is_full_for state s line ≡ false
not-full state s line below = λ i. lt-leb trail_limit state.steps below i && not (is_end_of_open state s line)

module _ (tenant : ℕ) (bound : Bound) (state : State) (s : ℕ) (line : List ℕ) (below : state.steps < trail_limit) where
  is-numbered : step tenant bound state s line ≡ numbered state (reply_to tenant bound state s line)
  is-numbered = λ i. elim (not-full state s line below i) as (λ _. State × Answer) [
    | true ↦ (state, record { number = None; reply = reply.No refusal.TrailFull })
    | false ↦ numbered state (reply_to tenant bound state s line)
  ]

  reply-is : (step tenant bound state s line).1.reply ≡ (reply_to tenant bound state s line).1
  reply-is = λ i. (is-numbered i).1.reply

  state-is : (step tenant bound state s line).0 ≡ record (reply_to tenant bound state s line).0 { steps = state.steps + 1 }
  state-is = λ i. (is-numbered i).0

room : (steps more : ℕ) → steps + suc more ≤ trail_limit → steps < trail_limit
room steps more most = omega (arith, most)

pub left : (tenant : ℕ) (bound : Bound) (state : State) (s : ℕ) (line : List ℕ) → state.steps < trail_limit → (more : ℕ) → state.steps + suc more ≤ trail_limit →
    (step tenant bound state s line).0.steps + more ≤ trail_limit
left tenant bound state s line below more most =
    let one : (step tenant bound state s line).0.steps ≡ state.steps + 1 = (λ i. (state-is tenant bound state s line below i).steps) in
    omega (arith, most, one)

-- ---- lines

abbrev IsOwn : ℕ × List ℕ → Type 0
IsOwn e = IsTrue (is_session e.0)

module _ (law : PrecedesIsClosure) (free : (used : List ℕ) → IsLeastFree used (least_free used)) (first second : ℕ) (bound : Bound) where
  -- the state that a step leaves, as the other one numbered so
  stepped : (tenant : ℕ) (n : Numbering) (one other : State) → IsRenumbered tenant n one other → (s : ℕ) → IsTrue (is_session s) → (line : List ℕ) → other.steps < trail_limit →
      (m : Numbering) × IsRenumbered tenant m (reply_to first bound one s line).0 (step tenant bound other s line).0 × ((step tenant bound other s line).1.reply ≡ (reply_to first bound one s line).1)
  stepped tenant n one other h s is line below =
      let a = line-made law free first tenant bound n one other (from-renumbered tenant n one other h) s is line in
      let after = (reply_to first bound one s line).0 in
      let made = steps-made tenant a.0 after (reply_to tenant bound other s line).0 a.1 after.steps (other.steps + 1) in (
        a.0,
        to-renumbered tenant a.0 after (step tenant bound other s line).0 (subst (IsMade tenant a.0 after) (sym (state-is tenant bound other s line below)) made),
        reply-is tenant bound other s line below ∙ a.2,
      )

  step-alike : (one other : State) → AreAlike first second one other → (s : ℕ) → IsTrue (is_session s) → (line : List ℕ) → one.steps < trail_limit → other.steps < trail_limit →
      ((step first bound one s line).1.reply ≡ (step second bound other s line).1.reply) × AreAlike first second (step first bound one s line).0 (step second bound other s line).0
  step-alike one other h s is line below under =
      let a = stepped first h.first_numbering h.state one h.first_is s is line below in
      let b = stepped second h.second_numbering h.state other h.second_is s is line under in (
        a.2 ∙ sym b.2,
        record { state = (reply_to first bound h.state s line).0; first_numbering = a.0; second_numbering = b.0; first_is = a.1; second_is = b.1 },
      )

  pub alike-lines : AlikeAnswerAlike first second bound
  alike-lines one again [] h is most few = (refl, h)
  alike-lines one again (e ∷ es) h is most few =
      let below : one.steps < trail_limit = room one.steps (length es) most in
      let under : again.steps < trail_limit = room again.steps (length es) few in
      let now = step-alike one again h e.0 (All-head IsOwn e es is) e.1 below under in
      let rest =
      alike-lines (step first bound one e.0 e.1).0 (step second bound again e.0 e.1).0 es now.1 (All-tail IsOwn e es is)
      (left first bound one e.0 e.1 below (length es) most) (left second bound again e.0 e.1 under (length es) few) in
      (λ i. now.0 i ∷ rest.0 i, rest.1)
