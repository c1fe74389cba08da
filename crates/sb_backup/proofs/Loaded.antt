-- Tenants of a cell that scripts made.
use Rattle.std.proofs.Common.{◌≡◌, ◌∙◌, ◌⊎◌, ◌<◌, ◌≤◌, ◌+◌, ◌%◌, ◌==◌, ◌/◌, ◌&&◌, nat_lt, ℕ, Bool, true, false, List, [], ◌∷◌, ◌++◌, Option, Some, None, Result, Ok, Err, OnOk, inl, inr, refl, sym, ap, subst, eq-eqb, arith}
use Rattle.std.proofs.lemmas.Bool.{cases_lt, ne_eqb}
use Rattle.std.proofs.Math.Nat.{eq-or-lt_of_le}
use Rattle.std.specs.Prelude.{IfSome, IsFalse}
use Rattle.std.specs.Io.KnownBytes.{Appends}
use Rattle.sb_tenant.specs.declared.bound.Bound.{Bound}
use Rattle.sb_tenant.specs.declared.reply.Answer.{Answer}
use Rattle.sb_tenant.specs.declared.reply.Entry.{Entry}
use Rattle.sb_tenant.specs.State.{State, opening}
use Rattle.sb_tenant.specs.Step.{step}
use Rattle.sb_tenant.specs.Trail.{state_after, state_of}
use Rattle.sb_cell.specs.declared.StepError.{StepError}
use Rattle.sb_cell.specs.Events.{IsTurn}
use Rattle.sb_cell.specs.Tenants.{AnswersBy, AnswersEvent, Cell, IsNew, IsSame, hosts, states, trail_of, trails}
use Rattle.sb_dump.specs.Dumps.{as_session, played, whole_session}
use Rattle.sb_wire.specs.Stream.{AnswersInput}
use Rattle.sb_backup.specs.Loads.{AnswersLoaded, IsLoaded, IsLoadedFrom, IsScripted, IsScriptedBy}
use Rattle.sb_backup.specs.LoadedCells.{AreTaken, IsStarted, IsTaken, Sends, TakesEach, TakesLine}

-- ---- one line

-- what a step of a line leaves, and that its reply is taken
abbrev Takes : Bound → ℕ → List Entry → List Entry → List ℕ → Type 0
Takes bound t before after own =
    let r = step t bound (state_of t bound before) 0 own in (state_of t bound after ≡ r.0) × IsTaken r.1.reply

-- a turn that is taken is a step
turn_steps : (bound : Bound) (t : ℕ) (before after : List Entry) (own : List ℕ) (a : Answer) → IsTaken a.reply → IsTurn bound t before (0, own) (Ok a) after
    → Takes bound t before after own
turn_steps bound t before after own a taken (inl (longer, number, (is_one, inl (other, stepped)))) =
    (sym (ap (λ r. r.0) stepped), subst (λ (r : State × Answer). IsTaken r.1.reply) (sym stepped) taken)
turn_steps bound t before after own a taken (inl (longer, number, (is_one, inr (told, aborted, may)))) = absurd (subst IsTaken told taken)
turn_steps bound t before after own a taken (inr (full, told, same)) = absurd (subst (λ (x : Answer). IsTaken x.reply) told taken)

pub one_sent : (old new : Cell) (t : ℕ) (own : List ℕ) (a : Answer) → IsTaken a.reply → AnswersEvent old t 0 own (Ok a) new → Sends t (own ∷ []) old new
one_sent old new t own a taken answers = by (hosts old t) answers
  where
    by : (b : Bool) → AnswersBy b true old t 0 own (Ok a) new → Sends t (own ∷ []) old new
    by false (refused, same) = absurd (subst IsAnswered refused tt)
      where
        IsAnswered : Result Answer StepError → Type 0
        IsAnswered (Ok x) = Unit {0}
        IsAnswered (Err e) = ⊥
    by true (turn, others, same) =
        let steps = turn_steps old.bound t (trails old t) (trails new t) own a taken turn in
        record {
          sent = ap (λ b. state_of t b (trails new t)) same.2 ∙ steps.0;
          taken = (steps.1, tt);
          others = λ u other. λ i. state_of u (same.2 i) (trail_of (others u other i));
          same = same;
        }

-- what holds where it went well
pub where_ok : {A E P Q : Type 0} (r : Result A E) → (P → Q) → OnOk r P → OnOk r Q
where_ok (Ok a) shows holds = shows holds
where_ok (Err e) shows holds = tt

-- ---- lines one after another

after_both : (t : ℕ) (bound : Bound) (st : State) (one two : List (List ℕ)) →
    state_after t bound st (as_session 0 (one ++ two)) ≡ state_after t bound (state_after t bound st (as_session 0 one)) (as_session 0 two)
after_both t bound st [] two = refl
after_both t bound st (own ∷ one) two = after_both t bound (step t bound st 0 own).0 one two

taken_both : (t : ℕ) (bound : Bound) (st : State) (one two : List (List ℕ)) → AreTaken t bound st one
    → AreTaken t bound (state_after t bound st (as_session 0 one)) two → AreTaken t bound st (one ++ two)
taken_both t bound st [] two first second = second
taken_both t bound st (own ∷ one) two first second = (first.0, taken_both t bound (step t bound st 0 own).0 one two first.1 second)

pub sends_both : (old mid new : Cell) (t : ℕ) (one two : List (List ℕ)) → Sends t one old mid → Sends t two mid new → Sends t (one ++ two) old new
sends_both old mid new t one two first second = record {
  sent = second.sent ∙ (λ i. state_after t (first.same.2 i) (first.sent i) (as_session 0 two)) ∙ sym (after_both t old.bound (states old t) one two);
  taken = taken_both t old.bound (states old t) one two first.taken
      (subst (λ (s : State). AreTaken t old.bound s two) first.sent (subst (λ (b : Bound). AreTaken t b (states mid t) two) first.same.2 second.taken));
  others = λ u other. second.others u other ∙ first.others u other;
  same = (second.same.0 ∙ first.same.0, second.same.1 ∙ first.same.1, second.same.2 ∙ first.same.2, second.same.3 ∙ first.same.3);
}

sends_none : (cell : Cell) (t : ℕ) → Sends t [] cell cell
sends_none cell t = record { sent = refl; taken = tt; others = λ u other. refl; same = (refl, refl, refl, refl) }

-- lines that are taken one after another
pub each_sent : (t : ℕ) (lines : List (List ℕ)) (old new : Cell) → TakesEach (TakesLine t) lines old new → Sends t lines old new
each_sent t [] old new same = subst (λ (c : Cell). Sends t [] old c) (sym same) (sends_none old t)
each_sent t (own ∷ more) old new (mid, taken, behind) =
    sends_both old mid new t (own ∷ []) more (one_sent old mid t own taken.0 taken.1 taken.2) (each_sent t more mid new behind)

-- ---- all tenants

-- the tenants below a number are made, and the others are as they were
pub record LoadedTo (files : ℕ → Option (Option (List ℕ))) (bound : Bound) (k : ℕ) (fresh cell : Cell) : Type 0 where
  pub same : IsSame fresh cell
  pub made : (t : ℕ) → t < k → IsScriptedBy t bound (files t) (states cell t)
  pub left : (t : ℕ) → k ≤ t → states cell t ≡ opening

pub none_loaded : (files : ℕ → Option (Option (List ℕ))) (tenants : ℕ) (bound : Bound) (fresh : Cell) → IsNew 0 1 tenants bound fresh → LoadedTo files bound 0 fresh fresh
none_loaded files tenants bound fresh new = record {
  same = (refl, refl, refl, refl);
  made = λ t below. absurd (omega arith);
  left = λ t above. ap (state_of t fresh.bound) (new.trails t);
}

apart : (u k : ℕ) → (u ≡ k → ⊥) → IsFalse (u == k)
apart u k other = ne_eqb u k other

whole : (known : Option (Option (List ℕ))) (bound : Bound) (k : ℕ) (old new : Cell) → old.bound ≡ bound → states old k ≡ opening → IsStarted k known old new
    → IsScriptedBy k bound known (states new k)
whole known bound k old new bound_is opens (inl (same, lacks)) = inl (ap (λ (c : Cell). states c k) same ∙ opens, lacks)
whole known bound k old new bound_is opens (inr (lines, has, sends)) =
    inr (
      lines,
      has,
      (
        sends.sent ∙ (λ i. state_after k (bound_is i) (opens i) (as_session 0 (whole_session lines))),
        subst (λ (s : State). AreTaken k bound s (whole_session lines)) opens
            (subst (λ (b : Bound). AreTaken k b (states old k) (whole_session lines)) bound_is sends.taken),
      ),
    )

others_stay : (known : Option (Option (List ℕ))) (k : ℕ) (old new : Cell) → IsStarted k known old new → (u : ℕ) → (u ≡ k → ⊥) → states new u ≡ states old u
others_stay known k old new (inl (same, lacks)) u other = ap (λ (c : Cell). states c u) same
others_stay known k old new (inr (lines, has, sends)) u other = sends.others u (apart u k other)

stays_same : (known : Option (Option (List ℕ))) (k : ℕ) (old new : Cell) → IsStarted k known old new → IsSame old new
stays_same known k old new (inl (same, lacks)) = subst (IsSame old) (sym same) (refl, refl, refl, refl)
stays_same known k old new (inr (lines, has, sends)) = sends.same

pub one_loaded : (files : ℕ → Option (Option (List ℕ))) (bound : Bound) (k : ℕ) (fresh cell new : Cell) → fresh.bound ≡ bound → LoadedTo files bound k fresh cell
    → IsStarted k (files k) cell new → LoadedTo files bound (k + 1) fresh new
one_loaded files bound k fresh cell new bound_is so_far started = record {
  same = let next = stays_same (files k) k cell new started in
      (next.0 ∙ so_far.same.0, next.1 ∙ so_far.same.1, next.2 ∙ so_far.same.2, next.3 ∙ so_far.same.3);
  made = λ t below. made t (eq-or-lt_of_le (omega arith));
  left = λ t above. others_stay (files k) k cell new started t (λ is. let e : t ≡ k = is in absurd (omega arith)) ∙ so_far.left t (omega arith);
}
  where
    made : (t : ℕ) → (t ≡ k) ⊎ (t < k) → IsScriptedBy t bound (files t) (states new t)
    made t (inl is) =
        subst (λ (u : ℕ). IsScriptedBy u bound (files u) (states new u)) (sym is)
        (whole (files k) bound k cell new (so_far.same.2 ∙ bound_is) (so_far.left k (omega arith)) started)
    made t (inr below) =
        subst (IsScriptedBy t bound (files t)) (sym (others_stay (files k) k cell new started t (λ is. let e : t ≡ k = is in absurd (omega arith)))) (so_far.made t below)

-- whatever is known of its file
scripted_at_all : (t : ℕ) (bound : Bound) (known : Option (Option (List ℕ))) (state : State) → IsScriptedBy t bound known state → IsScripted t bound state
scripted_at_all t bound known state (inl (is, lacks)) = inl is
scripted_at_all t bound known state (inr (lines, has, played)) = inr (lines, played)

pub all_loaded : (files : ℕ → Option (Option (List ℕ))) (tenants : ℕ) (bound : Bound) (fresh cell : Cell) → IsNew 0 1 tenants bound fresh
    → LoadedTo files bound tenants fresh cell → IsLoadedFrom files tenants bound cell
all_loaded files tenants bound fresh cell new loaded = record {
  loaded = record {
    hosted = λ t. (λ i. (t % loaded.same.1 i == loaded.same.0 i) && nat_lt (t / loaded.same.1 i) (loaded.same.3 i)) ∙ new.hosted t ∙ ap (λ (b : Bool). b && nat_lt t tenants) (first t);
    at_most = loaded.same.2 ∙ new.at_most;
    scripted = λ t. scripted t (cases_lt t tenants);
  };
  from_files = loaded.made;
}
  where
    first : (t : ℕ) → (t % 1 == 0) ≡ true
    first t = let none : t % 1 ≡ 0 = omega arith in eq-eqb (t % 1) 0 none

    scripted : (t : ℕ) → (t < tenants) ⊎ (tenants ≤ t) → IsScripted t bound (states cell t)
    scripted t (inl below) = scripted_at_all t bound (files t) (states cell t) (loaded.made t below)
    scripted t (inr above) = inl (loaded.left t above)

-- ---- the input behind

pub answers_loaded : (tenants : ℕ) (bound : Bound) (cell after : Cell) (input held holds : Option (List ℕ)) → IsLoaded tenants bound cell
    → IfSome input (λ bytes. (text : List ℕ) × Appends held holds text × AnswersInput cell bytes text after)
    → IfSome input (λ bytes. (text : List ℕ) × Appends held holds text × AnswersLoaded tenants bound bytes text)
answers_loaded tenants bound cell after None held holds loaded answers = tt
answers_loaded tenants bound cell after (Some bytes) held holds loaded (text, appends, answers) =
    (text, appends, record { loaded = cell; is_loaded = loaded; after = after; answers = answers })
