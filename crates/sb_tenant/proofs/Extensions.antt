-- A trail goes on by a step, or by an abort.
use Rattle.std.proofs.Common.{◌≡◌, ℕ, ◌+◌, Bool, true, false, List, [], ◌∷◌, ◌++◌, length, Some, None, inl, inr, IsTrue, refl, sym, ◌∙◌, ap, arith, length-append}
use Rattle.std.proofs.lemmas.Bool.{true≢false}
use Rattle.sb_tenant.specs.declared.bound.Bound.{Bound}
use Rattle.sb_value.specs.declared.refusal.Refusal.TheVariants as refusal
use Rattle.sb_tenant.specs.declared.reply.Answer.{Answer}
use Rattle.sb_tenant.specs.declared.reply.Entry.{Entry}
use Rattle.sb_tenant.specs.declared.reply.Reply.{Reply}
use Rattle.sb_tenant.specs.declared.reply.Reply.TheVariants as reply
use Rattle.sb_tenant.specs.Limits.{is_session}
use Rattle.sb_tenant.specs.State.{State, opening}
use Rattle.sb_tenant.specs.Step.{is_full_for, is_end_of_open, reply_to, numbered, step}
use Rattle.sb_tenant.specs.Trail.{after_abort, is_no_memory, IsNext, state_of, IsTrail, entry_of}
use Rattle.sb_tenant.proofs.MemoryLaws.{fine-step}
use Rattle.sb_tenant.proofs.ReplayLaws.{next_after, legal_steps, state_of-one_more, trail-one_more}

module _ (tenant : ℕ) (bound : Bound) where
  -- where the trail has a place, a step is numbered
  pub step-numbered : (state : State) (s : ℕ) (line : List ℕ) → is_full_for state s line ≡ false → step tenant bound state s line ≡ numbered state (reply_to tenant bound state s line)
  step-numbered state s line room = λ i. placed (room i)
    where
      placed : Bool → State × Answer
      placed b = elim b [ true ↦ (state, record { number = None; reply = reply.No refusal.TrailFull }) | false ↦ numbered state (reply_to tenant bound state s line) ]

  pub step_is_next : (state : State) (s : ℕ) (line : List ℕ) → IsTrue (is_session s) → is_full_for state s line ≡ false →
      IsNext tenant bound state (entry_of s line (step tenant bound state s line).1.reply) (step tenant bound state s line).0
  step_is_next state s line is_one room = (
    is_one,
    inl (
      (λ told. true≢false (sym (ap is_no_memory told) ∙ fine-step tenant bound state s line)),
      (λ i. ((step tenant bound state s line).0, record { number = numbers i; reply = (step tenant bound state s line).1.reply })),
    ),
  )
    where
      numbers : (step tenant bound state s line).1.number ≡ Some (state.steps + 1)
      numbers = ap (λ r. r.1.number) (step-numbered state s line room)

  pub abort_is_next : (state : State) (s : ℕ) (line : List ℕ) → IsTrue (is_session s) → is_full_for state s line ≡ false → is_end_of_open state s line ≡ false →
      IsNext tenant bound state (entry_of s line (reply.No refusal.NoMemory)) (after_abort state s)
  abort_is_next state s line is_one room no_end = (is_one, inr (refl, refl, (room, no_end)))

  -- a trail with one more such entry, whose number is its length
  module _ (trail : List Entry) (legal : IsTrail tenant bound trail) (s : ℕ) (line : List ℕ) (told : Reply) (after : State)
      (next : IsNext tenant bound (state_of tenant bound trail) (entry_of s line told) after) where
    longer : List Entry
    longer = trail ++ entry_of s line told ∷ []

    pub extended : IsTrail tenant bound (trail ++ entry_of s line told ∷ [])
    extended = trail-one_more tenant bound trail (entry_of s line told) after legal next

    pub state_of-extended : state_of tenant bound (trail ++ entry_of s line told ∷ []) ≡ after
    state_of-extended =
        state_of-one_more tenant bound trail (entry_of s line told)
        ∙ sym (next_after tenant bound (state_of tenant bound trail) (entry_of s line told) after next)

    pub length-extended : (state_of tenant bound trail).steps + 1 ≡ length (trail ++ entry_of s line told ∷ [])
    length-extended =
        let steps = legal_steps tenant bound opening trail (state_of tenant bound trail) legal in
        omega (arith, steps, length-append trail (entry_of s line told ∷ []))
