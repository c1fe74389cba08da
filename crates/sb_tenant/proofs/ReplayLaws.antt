-- Legal trails and the states that they give.
use Rattle.std.proofs.Common.{◌≡◌, ℕ, zero, suc, ◌+◌, ◌≤◌, Bool, true, false, not, cond, ◌&&◌, ◌==◌, nat_le, List, [], ◌∷◌, ◌++◌, length, count_by, Some, None, inl, inr, refl, sym, ◌∙◌, ap, subst, arith, lit≤, codes}
use Rattle.std.proofs.lemmas.Bool.{ltb-true, leb-false, true≢false, false≢true, not-false, and_parts}
use Rattle.sb_tenant.specs.declared.bound.Bound.{Bound}
use Rattle.sb_value.specs.Name.{same_name}
use Rattle.std.proofs.lemmas.List.Sums.{count_by-le-length}
use Rattle.sb_value.specs.Locks.{sessions}
use Rattle.sb_syntax.specs.Text.{command_of}
use Rattle.sb_syntax.specs.Tree.{end_session}
use Rattle.sb_value.specs.declared.refusal.Refusal.TheVariants as refusal
use Rattle.sb_tenant.specs.declared.reply.Answer.{Answer}
use Rattle.sb_tenant.specs.declared.reply.Entry.{Entry}
use Rattle.sb_tenant.specs.declared.reply.Reply.{Reply}
use Rattle.sb_tenant.specs.declared.reply.Reply.TheVariants as reply
use Rattle.sb_tenant.specs.Limits.{entry_limit, is_session, trail_limit}
use Rattle.sb_tenant.specs.State.{State, Session, closed, idle, active, opening, session_at, is_open, open_count, has_transaction, rolled_back, with_session}
use Rattle.sb_tenant.specs.Step.{is_full_for, is_end_of_open, reply_to, numbered, step}
use Rattle.sb_tenant.specs.Trail.{after_abort, is_no_memory, IsStep, IsAbort, IsNext, IsLegal, after_entry, replayed, state_of, IsTrail}
use Rattle.sb_tenant.specs.TrailLaws.{open_by, TrailsFixStates, LegalStatesAreReplayed, OthersStay, OwnOpens, TrailsAreBounded}
use Rattle.sb_tenant.proofs.Tests.{same_text}
use Rattle.sb_tenant.proofs.SessionLaws.{own_session, other_session, own_step, other_step}

no_memory : (r : Reply) → is_no_memory r ≡ true → r ≡ reply.No refusal.NoMemory
no_memory (reply.No refusal.NoMemory) h = refl
no_memory r h = absurd (false≢true h)

module _ (tenant : ℕ) (bound : Bound) where
  -- ---- the state after an entry

  step_after : (before : State) (entry : Entry) (after : State) → IsStep tenant bound before entry after → after ≡ after_entry tenant bound before entry
  step_after before entry after s =
      elim (is_no_memory entry.reply) as (λ b. is_no_memory entry.reply ≡ b → after ≡
      elim b [ true ↦ after_abort before entry.session | false ↦ (step tenant bound before entry.session entry.line).0 ]) [
        | true ↦ λ h. absurd (s.0 (no_memory entry.reply h))
        | false ↦ λ h. ap (λ p. p.0) (sym s.1)
      ] refl

  abort_after : (before : State) (entry : Entry) (after : State) → IsAbort tenant bound before entry after → after ≡ after_entry tenant bound before entry
  abort_after before entry after (told, is, may) =
      is ∙ (λ i. by_memory (sym (ap is_no_memory told) i))
    where
      by_memory : Bool → State
      by_memory b = elim b [ true ↦ after_abort before entry.session | false ↦ (step tenant bound before entry.session entry.line).0 ]

  pub next_after : (before : State) (entry : Entry) (after : State) → IsNext tenant bound before entry after → after ≡ after_entry tenant bound before entry
  next_after before entry after (is_one, inl s) = step_after before entry after s
  next_after before entry after (is_one, inr a) = abort_after before entry after a

  pub legal_is_replayed : (before : State) (entries : List Entry) (after : State) → IsLegal tenant bound before entries after → after ≡ replayed tenant bound before entries
  legal_is_replayed before [] after p = p
  legal_is_replayed before (entry ∷ entries) after (mid, next, p) =
      legal_is_replayed mid entries after p ∙ ap (λ state. replayed tenant bound state entries) (next_after before entry mid next)

  pub trails_fix_states : TrailsFixStates tenant bound
  trails_fix_states before entries one other p q = legal_is_replayed before entries one p ∙ sym (legal_is_replayed before entries other q)

  -- ---- the number of steps

  next_steps : (before : State) (entry : Entry) (after : State) → IsNext tenant bound before entry after → after.steps ≡ before.steps + 1
  next_steps before entry after (is_one, inl s) =
      elim (is_full_for before entry.session entry.line) as (λ b.
      let r : State × Answer = elim b [ true ↦ (before, record { number = None; reply = reply.No refusal.TrailFull }) | false ↦ numbered before (reply_to tenant bound before entry.session entry.line) ] in
      r ≡ (after, record { number = Some (before.steps + 1); reply = entry.reply }) → after.steps ≡ before.steps + 1) [
        | true ↦ λ h. absurd (none_is_none before.steps (ap (λ p. p.1.number) h))
        | false ↦ λ h. sym (ap (λ p. p.0.steps) h)
      ] s.1
    where
      none_is_none : (n : ℕ) → None ≡ Some (n + 1) → ⊥
      none_is_none n h = cc
  next_steps before entry after (is_one, inr (told, is, may)) = ap (λ state. state.steps) is

  pub legal_steps : (before : State) (entries : List Entry) (after : State) → IsLegal tenant bound before entries after → after.steps ≡ before.steps + length entries
  legal_steps before [] after p = ap (λ state. state.steps) p ∙ omega arith
  legal_steps before (entry ∷ entries) after (mid, next, p) =
      let rest = legal_steps mid entries after p in let one = next_steps before entry mid next in omega arith

  pub legal_states_are_replayed : LegalStatesAreReplayed tenant bound
  legal_states_are_replayed trail state p = (legal_is_replayed opening trail state p, legal_steps opening trail state p ∙ omega arith)

  -- ---- one entry more

  pub replayed-one_more : (before : State) (entries : List Entry) (entry : Entry) →
      replayed tenant bound before (entries ++ entry ∷ []) ≡ after_entry tenant bound (replayed tenant bound before entries) entry
  replayed-one_more before [] entry = refl
  replayed-one_more before (e ∷ entries) entry = replayed-one_more (after_entry tenant bound before e) entries entry

  pub state_of-one_more : (trail : List Entry) (entry : Entry) → state_of tenant bound (trail ++ entry ∷ []) ≡ after_entry tenant bound (state_of tenant bound trail) entry
  state_of-one_more trail entry = replayed-one_more opening trail entry

  pub legal-one_more : (before : State) (entries : List Entry) (mid : State) (entry : Entry) (after : State) →
      IsLegal tenant bound before entries mid → IsNext tenant bound mid entry after → IsLegal tenant bound before (entries ++ entry ∷ []) after
  legal-one_more before [] mid entry after p next = (after, subst (λ state. IsNext tenant bound state entry after) p next, refl)
  legal-one_more before (e ∷ entries) mid entry after (state, one, p) next = (state, one, legal-one_more state entries mid entry after p next)

  -- a trail with an entry that may come next is a trail
  pub trail-one_more : (trail : List Entry) (entry : Entry) (after : State) → IsTrail tenant bound trail → IsNext tenant bound (state_of tenant bound trail) entry after →
      IsTrail tenant bound (trail ++ entry ∷ [])
  trail-one_more trail entry after p next =
      subst (IsLegal tenant bound opening (trail ++ entry ∷ [])) (next_after (state_of tenant bound trail) entry after next ∙ sym (state_of-one_more trail entry))
      (legal-one_more opening trail (state_of tenant bound trail) entry after p next)

  -- ---- open sessions

  abort_session : (state : State) (s o : ℕ) → (o == s) ≡ false → session_at (after_abort state s) o ≡ session_at state o
  abort_session state s o other =
      elim (has_transaction (session_at state s)) as (λ b. let r : State = elim b [ true ↦ rolled_back state s | false ↦ state ] in session_at r o ≡ session_at state o) [
        | true ↦ other_session state s idle o other
        | false ↦ refl
      ]

  pub others_stay : OthersStay tenant bound
  others_stay state entry s other =
      elim (is_no_memory entry.reply) as (λ b.
      let r : State = elim b [ true ↦ after_abort state entry.session | false ↦ (step tenant bound state entry.session entry.line).0 ] in
      session_at r s ≡ session_at state s) [
        | true ↦ abort_session state entry.session s other
        | false ↦ other_step tenant bound state entry.session entry.line s other
      ]

  with_transaction_open : (session : Session) → has_transaction session ≡ true → is_open session ≡ true
  with_transaction_open closed h = absurd (false≢true h)
  with_transaction_open idle h = refl
  with_transaction_open (active changes marks) h = refl

  own_abort : (state : State) (s : ℕ) → is_open (session_at (after_abort state s) s) ≡ is_open (session_at state s)
  own_abort state s =
      elim (has_transaction (session_at state s)) as (λ b. has_transaction (session_at state s) ≡ b →
      let r : State = elim b [ true ↦ rolled_back state s | false ↦ state ] in is_open (session_at r s) ≡ is_open (session_at state s)) [
        | true ↦ λ h. ap is_open (own_session state s idle) ∙ sym (with_transaction_open (session_at state s) h)
        | false ↦ λ h. refl
      ] refl

  -- whether the trail has a place for a step that is numbered
  has_room : (before : State) (entry : Entry) (after : State) → IsStep tenant bound before entry after → is_full_for before entry.session entry.line ≡ false
  has_room before entry after s =
      elim (is_full_for before entry.session entry.line) as (λ b.
      let r : State × Answer = elim b [ true ↦ (before, record { number = None; reply = reply.No refusal.TrailFull }) | false ↦ numbered before (reply_to tenant bound before entry.session entry.line) ] in
      r ≡ (after, record { number = Some (before.steps + 1); reply = entry.reply }) → b ≡ false) [
        | true ↦ λ h. absurd (none_is_none before.steps (ap (λ p. p.1.number) h))
        | false ↦ λ h. refl
      ] s.1
    where
      none_is_none : (n : ℕ) → None ≡ Some (n + 1) → ⊥
      none_is_none n h = cc

  pub own_opens : OwnOpens tenant bound
  own_opens before after entry (is_one, inl s) =
      elim (is_no_memory entry.reply) as (λ b. is_no_memory entry.reply ≡ b → is_open (session_at after entry.session)
      ≡ elim b [ true ↦ is_open (session_at before entry.session) | false ↦ open_by (command_of entry.line) (is_open (session_at before entry.session)) ]) [
        | true ↦ λ h. absurd (s.0 (no_memory entry.reply h))
        | false ↦ λ h. ap (λ p. is_open (session_at p.0 entry.session)) (sym s.1) ∙ own_step tenant bound before entry.session entry.line (has_room before entry after s)
      ] refl
  own_opens before after entry (is_one, inr (told, is, may)) =
      elim (is_no_memory entry.reply) as (λ b. b ≡ true → is_open (session_at after entry.session)
      ≡ elim b [ true ↦ is_open (session_at before entry.session) | false ↦ open_by (command_of entry.line) (is_open (session_at before entry.session)) ]) [
        | true ↦ λ h. ap (λ state. is_open (session_at state entry.session)) is ∙ own_abort before entry.session
        | false ↦ λ h. absurd (false≢true h)
      ] (ap is_no_memory told)

-- ---- how many sessions are open

abbrev bit : Bool → ℕ
bit b = cond b 1 0

module _ (f g : ℕ → Bool) where
  -- where two tests differ at s alone, the second passes one fewer of the sessions
  count-one_less : (s : ℕ) → is_session s ≡ true → ((o : ℕ) → (o == s) ≡ false → g o ≡ f o) → g s ≡ false → f s ≡ true → count_by g sessions + 1 ≡ count_by f sessions
  count-one_less zero h others p q = omega (arith, ap bit (others 1 refl), ap bit (others 2 refl), ap bit (others 3 refl), ap bit (others 4 refl), ap bit (others 5 refl), ap bit (others 6 refl), ap bit (others 7 refl), ap bit p, ap bit q)
  count-one_less (suc zero) h others p q = omega (arith, ap bit (others 0 refl), ap bit (others 2 refl), ap bit (others 3 refl), ap bit (others 4 refl), ap bit (others 5 refl), ap bit (others 6 refl), ap bit (others 7 refl), ap bit p, ap bit q)
  count-one_less (suc (suc zero)) h others p q = omega (arith, ap bit (others 0 refl), ap bit (others 1 refl), ap bit (others 3 refl), ap bit (others 4 refl), ap bit (others 5 refl), ap bit (others 6 refl), ap bit (others 7 refl), ap bit p, ap bit q)
  count-one_less (suc (suc (suc zero))) h others p q = omega (arith, ap bit (others 0 refl), ap bit (others 1 refl), ap bit (others 2 refl), ap bit (others 4 refl), ap bit (others 5 refl), ap bit (others 6 refl), ap bit (others 7 refl), ap bit p, ap bit q)
  count-one_less (suc (suc (suc (suc zero)))) h others p q = omega (arith, ap bit (others 0 refl), ap bit (others 1 refl), ap bit (others 2 refl), ap bit (others 3 refl), ap bit (others 5 refl), ap bit (others 6 refl), ap bit (others 7 refl), ap bit p, ap bit q)
  count-one_less (suc (suc (suc (suc (suc zero))))) h others p q = omega (arith, ap bit (others 0 refl), ap bit (others 1 refl), ap bit (others 2 refl), ap bit (others 3 refl), ap bit (others 4 refl), ap bit (others 6 refl), ap bit (others 7 refl), ap bit p, ap bit q)
  count-one_less (suc (suc (suc (suc (suc (suc zero)))))) h others p q = omega (arith, ap bit (others 0 refl), ap bit (others 1 refl), ap bit (others 2 refl), ap bit (others 3 refl), ap bit (others 4 refl), ap bit (others 5 refl), ap bit (others 7 refl), ap bit p, ap bit q)
  count-one_less (suc (suc (suc (suc (suc (suc (suc zero))))))) h others p q = omega (arith, ap bit (others 0 refl), ap bit (others 1 refl), ap bit (others 2 refl), ap bit (others 3 refl), ap bit (others 4 refl), ap bit (others 5 refl), ap bit (others 6 refl), ap bit p, ap bit q)
  count-one_less (suc (suc (suc (suc (suc (suc (suc (suc n)))))))) h others p q = absurd (omega (arith, ltb-true (suc (suc (suc (suc (suc (suc (suc (suc n)))))))) 8 h))

pub open_at_most : (state : State) → open_count state ≤ 8
open_at_most state = count_by-le-length (λ s. is_open (session_at state s)) sessions

-- one fewer once an open session has ended
pub open-ended : (state : State) (s : ℕ) → is_session s ≡ true → is_open (session_at state s) ≡ true → open_count (with_session (rolled_back state s) s closed) + 1 ≡ open_count state
open-ended state s is_one up =
    let ended = with_session (rolled_back state s) s closed in
    count-one_less (λ o. is_open (session_at state o)) (λ o. is_open (session_at ended o)) s is_one
    (λ o other. ap is_open (other_session (rolled_back state s) s closed o other ∙ other_session state s idle o other)) (ap is_open (own_session (rolled_back state s) s closed)) up

-- the line `end` is that command
pub ends : command_of (codes "end") ≡ Some end_session
unfolding command_of
ends = refl

module _ (tenant : ℕ) (bound : Bound) where
  -- past the limit only the end of an open session is a step
  by_end : (before : State) (entry : Entry) (after : State) → IsNext tenant bound before entry after → before.steps + open_count before ≤ entry_limit → nat_le trail_limit before.steps ≡ true →
      after.steps + open_count after ≤ entry_limit
  by_end before entry after (is_one, inl s) h long =
      let room = has_room tenant bound before entry after s in
      let is_end = not-false (is_end_of_open before entry.session entry.line) (sym (ap (λ b. b && not (is_end_of_open before entry.session entry.line)) long) ∙ room) in
      let was_open = (and_parts (is_open (session_at before entry.session)) (same_name entry.line (codes "end")) is_end).0 in
      let is_word = same_text entry.line (codes "end") (and_parts (is_open (session_at before entry.session)) (same_name entry.line (codes "end")) is_end).1 in
      let closed_after = ap (λ p. is_open (session_at p.0 entry.session)) (sym s.1) ∙ own_step tenant bound before entry.session entry.line room
      ∙ ap (λ c. open_by c (is_open (session_at before entry.session))) (ap command_of is_word ∙ ends) in
      let fewer = count-one_less (λ o. is_open (session_at before o)) (λ o. is_open (session_at after o)) entry.session is_one
      (λ o other. ap is_open (ap (λ p. session_at p.0 o) (sym s.1) ∙ other_step tenant bound before entry.session entry.line o other)) closed_after was_open in
      let steps = next_steps tenant bound before entry after (is_one, inl s) in
      omega (arith, fewer, steps, h)
  by_end before entry after (is_one, inr (told, is, (room, no_end))) h long =
      absurd (true≢false (sym (ap not no_end) ∙ sym (ap (λ b. b && not (is_end_of_open before entry.session entry.line)) long) ∙ room))

  -- at most eight more than the limit, the open ones added
  bounded_next : (before : State) (entry : Entry) (after : State) → IsNext tenant bound before entry after → before.steps + open_count before ≤ entry_limit → after.steps + open_count after ≤ entry_limit
  bounded_next before entry after next h =
      elim (nat_le trail_limit before.steps) as (λ b. nat_le trail_limit before.steps ≡ b → after.steps + open_count after ≤ entry_limit) [
        | false ↦ λ short.
            let below = leb-false trail_limit before.steps short in
            let steps = next_steps tenant bound before entry after next in let few = open_at_most after in omega arith
        | true ↦ λ long. by_end before entry after next h long
      ] refl

  bounded_from : (before : State) (entries : List Entry) (after : State) → IsLegal tenant bound before entries after → before.steps + open_count before ≤ entry_limit → after.steps + open_count after ≤ entry_limit
  bounded_from before [] after p h = subst (λ state. state.steps + open_count state ≤ entry_limit) (sym p) h
  bounded_from before (entry ∷ entries) after (mid, next, p) h = bounded_from mid entries after p (bounded_next before entry mid next h)

pub trails_are_bounded : (tenant : ℕ) (bound : Bound) → TrailsAreBounded tenant bound
trails_are_bounded tenant bound trail state p =
    let steps = legal_steps tenant bound opening trail state p in
    let h = bounded_from tenant bound opening trail state p (lit≤ tt) in
    omega arith
