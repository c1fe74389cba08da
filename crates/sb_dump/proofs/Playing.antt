-- Lines that are sent to the one tenant of a cell, each a step of the definition.
use Rattle.std.proofs.Common.{◌≡◌, ℕ, ◌+◌, ◌%◌, ◌/◌, Bool, true, ◌&&◌, ◌==◌, nat_lt, List, [], ◌∷◌, ◌++◌, Result, Ok, Err, OnOk, inl, inr, refl, sym, ap, ◌∙◌, subst}
use Rattle.std.proofs.lemmas.Bool.{true≢false}
use Rattle.sb_tenant.specs.declared.bound.Bound.{Bound}
use Rattle.sb_tenant.specs.declared.reply.Answer.{Answer}
use Rattle.sb_tenant.specs.declared.reply.Entry.{Entry}
use Rattle.sb_tenant.specs.State.{State, opening}
use Rattle.sb_tenant.specs.Step.{step}
use Rattle.sb_tenant.specs.Trail.{state_of, state_after}
use Rattle.sb_cell.specs.declared.StepError.{StepError}
use Rattle.sb_cell.specs.Events.{IsTurn}
use Rattle.sb_cell.specs.Tenants.{Cell, IsNew, IsSame, AnswersBy, AnswersEvent, hosts, states, trails}
use Rattle.sb_dump.specs.Dumps.{as_session, played, whole_session}
use Rattle.sb_dump.specs.Playing.{AreSent, IsDone, is_done}

-- ---- one line

-- a turn that is done is a step
turn_steps : (bound : Bound) (t : ℕ) (before after : List Entry) (line : List ℕ) (a : Answer) → is_done a.reply ≡ true → IsTurn bound t before (0, line) (Ok a) after →
    state_of t bound after ≡ (step t bound (state_of t bound before) 0 line).0
turn_steps bound t before after line a done (inl (longer, number, (is_one, inl (other, stepped)))) = sym (ap (λ r. r.0) stepped)
turn_steps bound t before after line a done (inl (longer, number, (is_one, inr (told, aborted, may)))) = absurd (true≢false (sym done ∙ ap is_done told))
turn_steps bound t before after line a done (inr (full, told, same)) = absurd (true≢false (sym done ∙ ap (λ (x : Answer). is_done x.reply) told))

one_sent : (old new : Cell) (id : ℕ) (line : List ℕ) (given : Result Answer StepError) → hosts old id ≡ true → IsDone given → AnswersEvent old id 0 line given new → AreSent id (line ∷ []) old new
one_sent old new id line (Err e) hosted done answers = absurd done
one_sent old new id line (Ok a) hosted done answers =
    let by : AnswersBy true true old id 0 line (Ok a) new = subst (λ (b : Bool). AnswersBy b true old id 0 line (Ok a) new) hosted answers in
    (ap (λ b. state_of id b (trails new id)) by.2.2 ∙ turn_steps old.bound id (trails old id) (trails new id) line a done by.0, by.2)

-- what a line that is done shows
where_done : {A E P Q : Type 0} (r : Result A E) → (P → Q) → OnOk r P → OnOk r Q
where_done (Ok a) shows done = shows done
where_done (Err e) shows done = done

-- a line that is sent to the tenant by its number, and is done
pub done_sent : {A E : Type 0} (old new : Cell) (id number : ℕ) (line : List ℕ) (given : Result Answer StepError) (checked : Result A E) → hosts old id ≡ true → number ≡ id →
    AnswersEvent old number 0 line given new → OnOk checked (IsDone given) → OnOk checked (AreSent id (line ∷ []) old new)
done_sent old new id number line given checked hosted is answers =
    where_done checked (λ done. one_sent old new id line given hosted done (subst (λ (t : ℕ). AnswersEvent old t 0 line given new) is answers))

-- ---- lines one after another

after_both : (id : ℕ) (bound : Bound) (st : State) (one two : List (List ℕ)) →
    state_after id bound st (as_session 0 (one ++ two)) ≡ state_after id bound (state_after id bound st (as_session 0 one)) (as_session 0 two)
after_both id bound st [] two = refl
after_both id bound st (line ∷ one) two = after_both id bound (step id bound st 0 line).0 one two

pub sent_both : (old mid new : Cell) (id : ℕ) (one two : List (List ℕ)) → AreSent id one old mid → AreSent id two mid new → AreSent id (one ++ two) old new
sent_both old mid new id one two (first, same) (second, next) = (
  second
      ∙ (λ i. state_after id (same.2 i) (first i) (as_session 0 two))
      ∙ sym (after_both id old.bound (states old id) one two),
  (next.0 ∙ same.0, next.1 ∙ same.1, next.2 ∙ same.2, next.3 ∙ same.3),
)

pub still_hosts : (old new : Cell) (t : ℕ) → IsSame old new → hosts new t ≡ hosts old t
still_hosts old new t same = λ i. (t % same.1 i == same.0 i) && nat_lt (t / same.1 i) (same.3 i)

-- ---- a whole session

pub new_opens : (id : ℕ) (bound : Bound) (cell : Cell) → IsNew id 256 (id + 1) bound cell → states cell id ≡ opening
new_opens id bound cell is_new = ap (state_of id cell.bound) (is_new.trails id)

pub whole_sent : (new cell : Cell) (id : ℕ) (bound : Bound) (lines : List (List ℕ)) → states new id ≡ opening → new.bound ≡ bound → AreSent id (whole_session lines) new cell → states cell id ≡ played id bound lines
whole_sent new cell id bound lines opens bound_is sent = sent.0 ∙ (λ i. state_after id (bound_is i) (opens i) (as_session 0 (whole_session lines)))
