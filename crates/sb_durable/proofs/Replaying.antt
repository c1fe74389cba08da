-- The lines that a legal trail is recorded as make its state again.
use Rattle.std.proofs.Common.{◌≡◌, ◌⊎◌, ℕ, ◌+◌, Bool, true, false, not, ◌&&◌, List, [], ◌∷◌, map, codes, cond, Option, Some, None, Ok, refl, sym, ap, ◌∙◌, inl, inr, nat_le, IsFalse}
use Rattle.sb_tenant.specs.declared.bound.Bound.{Bound}
use Rattle.sb_value.specs.declared.refusal.Refusal.TheVariants as refusal
use Rattle.sb_syntax.specs.Text.{command_of}
use Rattle.sb_syntax.specs.Tree.{Command, rollback}
use Rattle.sb_tenant.specs.declared.reply.Reply.{Reply}
use Rattle.sb_tenant.specs.declared.reply.Reply.TheVariants as reply
use Rattle.sb_tenant.specs.declared.reply.Answer.{Answer}
use Rattle.sb_tenant.specs.declared.reply.Entry.{Entry}
use Rattle.sb_tenant.specs.Limits.{trail_limit}
use Rattle.sb_tenant.specs.Resolved as resolved
use Rattle.sb_tenant.specs.State.{State, Session, closed, idle, active, session_at, is_open, has_transaction, rolled_back, opening}
use Rattle.sb_tenant.specs.Step.{first_of, is_end_of_open, is_full_for, numbered, outcome_of, reply_to, reply_to_command, step}
use Rattle.sb_tenant.specs.Trail.{aborted, after_abort, after_entry, IsLegal, IsStep, IsAbort, is_no_memory, MayAbort, replayed, state_after}
use Rattle.sb_durable.specs.Recording.{line_of, played, RecordsMakeTheState}

rollback_line : command_of (codes "rollback") ≡ Some rollback
unfolding command_of
rollback_line = refl

-- a step without want of memory says so
no_want : (r : Reply) → (r ≡ reply.No refusal.NoMemory → ⊥) → is_no_memory r ≡ false
no_want (reply.No refusal.NoMemory) other = absurd (other refl)
no_want r other = refl

not_full : (b e : Bool) → IsFalse (b && not e) → IsFalse e → b ≡ false
not_full false e full ends = refl
not_full true true full ends = ends
not_full true false full ends = full

module _ (tenant : ℕ) (bound : Bound) where
  abbrev by_command : State → ℕ → Option Command → State × Reply
  by_command st s c = elim c [ None ↦ (st, reply.No refusal.Syntax) | Some command ↦ reply_to_command tenant bound st s command ]

  -- a rollback takes back what the session has, if it has anything
  rolls_by : (st : State) (s : ℕ) (x : Session) →
      (outcome_of tenant bound st s (first_of (not (is_open x)) refusal.NotOpen (first_of (not (has_transaction x)) refusal.NoTransaction None)) (Ok resolved.rollback)).0
      ≡ elim (has_transaction x) [ true ↦ rolled_back st s | false ↦ st ]
  rolls_by st s closed = refl
  rolls_by st s idle = refl
  rolls_by st s (active changes marks) = refl

  rolls : (st : State) (s : ℕ) → (reply_to tenant bound st s (codes "rollback")).0 ≡ aborted st s
  rolls st s = (λ i. (by_command st s (rollback_line i)).0) ∙ rolls_by st s (session_at st s)

  abbrev by_room : State → State × Reply → Bool → State × Answer
  by_room st r b = elim b [ true ↦ (st, record { number = None; reply = reply.No refusal.TrailFull }) | false ↦ numbered st r ]

  abbrev by_memory : State → Entry → Bool → State
  by_memory st e b = elim b [ true ↦ after_abort st e.session | false ↦ (step tenant bound st e.session e.line).0 ]

  -- an abort is a step of that line
  aborts : (st : State) (s : ℕ) (line : List ℕ) → MayAbort st s line → (step tenant bound st s (codes "rollback")).0 ≡ after_abort st s
  aborts st s line may =
      let room = not_full (nat_le trail_limit st.steps) (is_end_of_open st s line) may.0 may.1 in
      let free : is_full_for st s (codes "rollback") ≡ false = ap (λ b. b && not (is_end_of_open st s (codes "rollback"))) room in
      ap (λ b. (by_room st (reply_to tenant bound st s (codes "rollback")) b).0) free
      ∙ ap (λ (x : State). record x { steps = st.steps + 1 }) (rolls st s)

  -- what an entry is recorded as leads where the entry does
  pub one : (before after : State) (e : Entry) → IsStep tenant bound before e after ⊎ IsAbort tenant bound before e after →
      ((step tenant bound before e.session (line_of e)).0 ≡ after) × (after_entry tenant bound before e ≡ after)
  one before after e (inl made) =
      let is = no_want e.reply made.0 in
      let leads = ap (λ (r : State × Answer). r.0) made.1 in (
        ap (λ b. (step tenant bound before e.session (cond b (codes "rollback") e.line)).0) is ∙ leads,
        ap (by_memory before e) is ∙ leads,
      )
  one before after e (inr abort) =
      let is = ap is_no_memory abort.0 in (
        ap (λ b. (step tenant bound before e.session (cond b (codes "rollback") e.line)).0) is ∙ aborts before e.session e.line abort.2 ∙ sym abort.1,
        ap (by_memory before e) is ∙ sym abort.1,
      )

  replays : (before after : State) (trail : List Entry) → IsLegal tenant bound before trail after → state_after tenant bound before (map played trail) ≡ replayed tenant bound before trail
  replays before after [] legal = refl
  replays before after (e ∷ trail) (mid, next, legal) =
      let both = one before mid e next.1 in
      ap (λ (st : State). state_after tenant bound st (map played trail)) both.0 ∙ replays mid after trail legal ∙ sym (ap (λ (st : State). replayed tenant bound st trail) both.1)

  pub make_the_state : RecordsMakeTheState tenant bound
  make_the_state trail legal = replays opening _ trail legal
