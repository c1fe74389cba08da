-- A cell that answers event by event runs each tenant in turn, and without want of memory as if it were alone.
use Rattle.std.proofs.Common.{◌≡◌, ℕ, ◌+◌, Bool, true, false, cond, ◌&&◌, ◌==◌, List, [], ◌∷◌, ◌++◌, map, length, Some, None, Result, Ok, Err, inl, inr, ◌⊎◌, refl, sym, ◌∙◌, ap, subst, arith, length-append}
use Rattle.std.specs.List.{cons_option}
use Rattle.std.proofs.lemmas.Bool.{true≢false, eqb-true, eq-eqb, false≢true, and_parts}
use Rattle.sb_tenant.specs.declared.bound.Bound.{Bound}
use Rattle.sb_value.specs.declared.refusal.Refusal.TheVariants.{NoMemory, TrailFull}
use Rattle.sb_tenant.specs.declared.reply.Answer.{Answer}
use Rattle.sb_tenant.specs.declared.reply.Entry.{Entry}
use Rattle.sb_tenant.specs.declared.reply.Reply.TheVariants.{No}
use Rattle.sb_tenant.specs.Limits.{is_session}
use Rattle.sb_tenant.specs.State.{State, opening}
use Rattle.sb_tenant.specs.Step.{is_full_for, numbered, reply_to, step}
use Rattle.sb_tenant.specs.Trail.{IsAbort, IsLegal, IsNext, IsStep, IsTrail, answers, entry_of, state_after, state_of}
use Rattle.sb_tenant.specs.TrailLaws.{LegalStatesAreReplayed}
use Rattle.sb_cell.specs.declared.Event.{Event}
use Rattle.sb_cell.specs.declared.StepError.{StepError}
use Rattle.sb_cell.specs.Events.{is_own, own_events, own_answers, IsTurn, AreTurns, IsEvent, AreEvents}
use Rattle.sb_cell.specs.Headline.{Run, BeginsLegal, RunsInTurn, AreServed, RunsAlone, AnswerAlike}

different : (a b : ℕ) → (a == b) ≡ false → (b == a) ≡ false
different a b h =
    elim (b == a) as (λ x. (b == a) ≡ x → x ≡ false) [ false ↦ λ _. refl | true ↦ λ same. absurd (false≢true (sym h ∙ eq-eqb a b (sym (eqb-true b a same)))) ] refl

-- ---- event by event

module _ (bound : Bound) where
  own_turn : (h b : Bool) → h ≡ true → b ≡ true → (before : ℕ → List Entry) (e : Event) (given : Result Answer StepError) (after : ℕ → List Entry) → IsEvent bound h b before e given after →
      IsTurn bound e.tenant (before e.tenant) (e.session, e.line) given (after e.tenant)
  own_turn true true p q before e given after turn = turn.0
  own_turn true false p q before e given after turn = absurd (false≢true q)
  own_turn false b p q before e given after turn = absurd (false≢true p)

  left_alone : (t : ℕ) (h b : Bool) (before : ℕ → List Entry) (e : Event) (given : Result Answer StepError) (after : ℕ → List Entry) → ((e.tenant == t) && b) ≡ false → IsEvent bound h b before e given after →
      after t ≡ before t
  left_alone t false b before e given after other p = ap (λ trails. trails t) p.1
  left_alone t true false before e given after other p = ap (λ trails. trails t) p.1
  left_alone t true true before e given after other p = p.1 t (different e.tenant t (and_true (e.tenant == t) other))
    where
      and_true : (x : Bool) → (x && true) ≡ false → x ≡ false
      and_true true h = absurd (true≢false h)
      and_true false h = refl

  module _ (hosts : ℕ → Bool) (t : ℕ) (hosted : hosts t ≡ true) where
    in_turn : (events : List Event) (given : List (Result Answer StepError)) (before after : ℕ → List Entry) → AreEvents bound hosts before events given after →
        AreTurns bound t (before t) (own_events t events) (own_answers t events given) (after t)
    in_turn [] [] before after p = ap (λ trails. trails t) p
    in_turn [] (a ∷ rest) before after p = absurd p
    in_turn (e ∷ es) [] before after p = absurd p
    in_turn (e ∷ es) (a ∷ rest) before after (mid, one, p) =
        elim (is_own t e) as (λ x. is_own t e ≡ x →
        AreTurns bound t (before t) (cons_option (cond x (Some (e.session, e.line)) None) (own_events t es)) (cons_option (cond x (Some a) None) (own_answers t es rest)) (after t)) [
          | true ↦ λ own.
              let same = eqb-true e.tenant t (and_parts (e.tenant == t) (is_session e.session) own).0 in
              let turn = own_turn (hosts e.tenant) (is_session e.session) (ap hosts same ∙ hosted) (and_parts (e.tenant == t) (is_session e.session) own).1 before e a mid one in
              (mid t, subst (λ u. IsTurn bound u (before u) (e.session, e.line) a (mid u)) same turn, in_turn es rest mid after p)
          | false ↦ λ other.
              subst (λ trail. AreTurns bound t trail (own_events t es) (own_answers t es rest) (after t)) (left_alone t (hosts e.tenant) (is_session e.session) before e a mid other one)
              (in_turn es rest mid after p)
        ] refl

  one_each : (hosts : ℕ → Bool) (events : List Event) (given : List (Result Answer StepError)) (before after : ℕ → List Entry) → AreEvents bound hosts before events given after →
      length given ≡ length events
  one_each hosts [] [] before after p = refl
  one_each hosts [] (a ∷ rest) before after p = absurd p
  one_each hosts (e ∷ es) [] before after p = absurd p
  one_each hosts (e ∷ es) (a ∷ rest) before after (mid, one, p) = let more = one_each hosts es rest mid after p in omega arith

  -- one event more
  pub events-one_more : (hosts : ℕ → Bool) (events : List Event) (given : List (Result Answer StepError)) (before mid after : ℕ → List Entry) (e : Event) (a : Result Answer StepError) →
      AreEvents bound hosts before events given mid → IsEvent bound (hosts e.tenant) (is_session e.session) mid e a after → AreEvents bound hosts before (events ++ e ∷ []) (given ++ a ∷ []) after
  events-one_more hosts [] [] before mid after e a p one =
      (after, subst (λ trails. IsEvent bound (hosts e.tenant) (is_session e.session) trails e a after) p one, refl)
  events-one_more hosts [] (b ∷ rest) before mid after e a p one = absurd p
  events-one_more hosts (f ∷ fs) [] before mid after e a p one = absurd p
  events-one_more hosts (f ∷ fs) (b ∷ rest) before mid after e a (next, first, p) one = (next, first, events-one_more hosts fs rest next mid after e a p one)

pub events_run_in_turn : (bound : Bound) (run : Run) → AreEvents bound run.hosts run.before run.events run.given run.after → RunsInTurn bound run
events_run_in_turn bound run p = record {
  one_each = one_each bound run.hosts run.events run.given run.before run.after p;
  turns = λ t hosted. in_turn bound run.hosts t hosted run.events run.given run.before run.after p;
}

-- ---- turns without want of memory are the definition's steps

-- a legal trail has as many entries as its state has steps
abbrev pub Replays : Type 0
Replays = (tenant : ℕ) (bound : Bound) → LegalStatesAreReplayed tenant bound

module _ (replays : Replays) (bound : Bound) (t : ℕ) where
  abbrev now : List Entry → State
  now trail = state_of t bound trail

  full-step : (s : ℕ) (st : State) (line : List ℕ) → is_full_for st s line ≡ true → step t bound st s line ≡ (st, record { number = None; reply = No TrailFull })
  full-step s st line full = λ i. elim (full i) [ true ↦ (st, record { number = None; reply = No TrailFull }) | false ↦ numbered st (reply_to t bound st s line) ]

  -- a trail with an entry that may come next is legal
  legal-one_more : (before : State) (entries : List Entry) (mid : State) (entry : Entry) (after : State) →
      IsLegal t bound before entries mid → IsNext t bound mid entry after → IsLegal t bound before (entries ++ entry ∷ []) after
  legal-one_more before [] mid entry after p next = (after, subst (λ st. IsNext t bound st entry after) p next, refl)
  legal-one_more before (e ∷ entries) mid entry after (st, one, p) next = (st, one, legal-one_more st entries mid entry after p next)

  turn_legal : (before : List Entry) (e : ℕ × List ℕ) (a : Answer) (after : List Entry) → IsTrail t bound before → IsTurn bound t before e (Ok a) after → IsTrail t bound after
  turn_legal before e a after legal (inl (longer, number, next)) =
      subst (λ (es : List Entry). IsLegal t bound opening es (now after)) (sym longer)
      (legal-one_more opening before (now before) (entry_of e.0 e.1 a.reply) (now after) legal next)
  turn_legal before e a after legal (inr (full, told, same)) = subst (IsTrail t bound) (sym same) legal

  step_of_turn : (before : List Entry) (e : ℕ × List ℕ) (a : Answer) (after : List Entry) → IsTrail t bound before → (a.reply ≡ No NoMemory → ⊥) → IsTurn bound t before e (Ok a) after →
      step t bound (now before) e.0 e.1 ≡ (now after, a)
  step_of_turn before e a after legal served (inr (full, told, same)) = full-step e.0 (now before) e.1 full ∙ (λ i. (now (sym same i), sym told i))
  step_of_turn before e a after legal served (inl (longer, number, next)) = by_next next.1
    where
      numbered_so : a.number ≡ Some ((now before).steps + 1)
      numbered_so =
          let steps = (replays t bound before (now before) legal).1 in
          let n : length after ≡ (now before).steps + 1 = ap length longer ∙ omega (arith, steps, length-append before (entry_of e.0 e.1 a.reply ∷ [])) in
          number ∙ ap Some n

      by_next : (IsStep t bound (now before) (entry_of e.0 e.1 a.reply) (now after)) ⊎ (IsAbort t bound (now before) (entry_of e.0 e.1 a.reply) (now after)) →
          step t bound (now before) e.0 e.1 ≡ (now after, a)
      by_next (inl (other, stepped)) = stepped ∙ (λ i. (now after, record { number = sym numbered_so i; reply = a.reply }))
      by_next (inr (told, after_is, may)) = absurd (served told)

  turns_alone : (before : List Entry) (es : List (ℕ × List ℕ)) (given : List (Result Answer StepError)) (after : List Entry) → IsTrail t bound before → AreServed given →
      AreTurns bound t before es given after → (given ≡ map (λ a. Ok a) (answers t bound (now before) es)) × (now after ≡ state_after t bound (now before) es)
  turns_alone before [] [] after legal served p = (refl, ap now p)
  turns_alone before [] (a ∷ rest) after legal served p = absurd p
  turns_alone before (e ∷ es) [] after legal served p = absurd p
  turns_alone before (e ∷ es) (Err r ∷ rest) after legal served p = absurd served
  turns_alone before (e ∷ es) (Ok a ∷ rest) after legal served (mid, turn, p) =
      let s = step_of_turn before e a mid legal served.0 turn in
      let more = turns_alone mid es rest after (turn_legal before e a mid legal turn) served.1 p in (
        (λ i. Ok (sym s i).1 ∷ (more.0 ∙ ap (λ u. map (λ x. Ok x) (answers t bound u es)) (ap (λ r. r.0) (sym s))) i),
        more.1 ∙ ap (λ u. state_after t bound u es) (ap (λ r. r.0) (sym s)),
      )

pub turns_run_alone : Replays → (bound : Bound) (run : Run) → BeginsLegal bound run → RunsInTurn bound run → RunsAlone bound run
turns_run_alone replays bound run legal p = record {
  one_each = p.one_each;
  alone = λ t hosted served. turns_alone replays bound t (run.before t) (own_events t run.events) (own_answers t run.events run.given) (run.after t) (legal t hosted) served (p.turns t hosted);
}

pub equal_runs_answer_alike : (bound : Bound) (one other : Run) → RunsAlone bound one → RunsAlone bound other → AnswerAlike bound one other
equal_runs_answer_alike bound one other p q t hosted hosted_too served served_too same_state same_events =
    let a = p.alone t hosted served in
    let b = q.alone t hosted_too served_too in (
      a.0 ∙ (λ i. map (λ x. Ok x) (answers t bound (same_state i) (same_events i))) ∙ sym b.0,
      a.1 ∙ (λ i. state_after t bound (same_state i) (same_events i)) ∙ sym b.1,
    )
