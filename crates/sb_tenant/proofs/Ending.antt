-- When a session ends: its `end` is answered `ok`, and no other line closes it.
use Rattle.std.proofs.Common.{◌≡◌, ℕ, ◌+◌, Bool, true, false, ◌&&◌, not, Option, Some, None, refl, sym, ap, ◌∙◌, inl, inr}
use Rattle.std.proofs.lemmas.Bool.{true≢false}
use Rattle.sb_tenant.specs.declared.bound.Bound.{Bound}
use Rattle.sb_value.specs.declared.refusal.Refusal.TheVariants as refusal
use Rattle.sb_syntax.specs.Text.{command_of}
use Rattle.sb_syntax.specs.Tree.{Command, open_session, end_session, begin, commit, rollback, process_rules, process_ruleset, process_rule, create_table, drop_table, create_rule, alter_rule, drop_rule, activate_rule, deactivate_rule, create_ruleset, drop_ruleset, add_rules, del_rules, query, change}
use Rattle.sb_tenant.specs.declared.reply.Answer.{Answer}
use Rattle.sb_tenant.specs.declared.reply.Entry.{Entry}
use Rattle.sb_tenant.specs.declared.reply.Reply.{Reply}
use Rattle.sb_tenant.specs.declared.reply.Reply.TheVariants.{Ok, Count, Rows, Done, ByRule, ByError, ByLimit, No}
use Rattle.sb_tenant.specs.State.{State, session_at, is_open}
use Rattle.sb_tenant.specs.Step.{first_of, is_full_for, numbered, outcome_of, reply_to, reply_to_command}
use Rattle.sb_tenant.specs.Trail.{is_no_memory, IsNext, IsStep}
use Rattle.sb_tenant.specs.TrailLaws.{EndsClose, open_by}
use Rattle.sb_tenant.specs.Walk.{walk}
use Rattle.sb_tenant.specs.Closing.{closes, is_end, is_ok}
use Rattle.sb_tenant.proofs.ReplayLaws.{own_opens}

-- ---- what closes a session, by its command and its reply

stays : (n : Bool) → (elim n [ true ↦ true | false ↦ true ]) ≡ true
stays true = refl
stays false = refl

shuts : (n k : Bool) → (n ≡ false → k ≡ true) → (n ≡ true → k ≡ false) → (elim n [ true ↦ true | false ↦ false ]) ≡ not k
shuts true true h g = absurd (true≢false (g refl))
shuts true false h g = refl
shuts false true h g = refl
shuts false false h g = absurd (true≢false (sym (h refl)))

closed_by : (n k : Bool) (c : Option Command) → (c ≡ Some end_session → n ≡ false → k ≡ true) → (n ≡ true → k ≡ false) → (elim n [ true ↦ true | false ↦ open_by c true ]) ≡ not (is_end c && k)
closed_by n k None h g = stays n
closed_by n k (Some open_session) h g = stays n
closed_by n k (Some end_session) h g = shuts n k (h refl) g
closed_by n k (Some begin) h g = stays n
closed_by n k (Some commit) h g = stays n
closed_by n k (Some rollback) h g = stays n
closed_by n k (Some process_rules) h g = stays n
closed_by n k (Some (process_ruleset a)) h g = stays n
closed_by n k (Some (process_rule a)) h g = stays n
closed_by n k (Some (create_table a b)) h g = stays n
closed_by n k (Some (drop_table a)) h g = stays n
closed_by n k (Some (create_rule a)) h g = stays n
closed_by n k (Some (alter_rule a)) h g = stays n
closed_by n k (Some (drop_rule a)) h g = stays n
closed_by n k (Some (activate_rule a)) h g = stays n
closed_by n k (Some (deactivate_rule a)) h g = stays n
closed_by n k (Some (create_ruleset a)) h g = stays n
closed_by n k (Some (drop_ruleset a)) h g = stays n
closed_by n k (Some (add_rules a b)) h g = stays n
closed_by n k (Some (del_rules a b)) h g = stays n
closed_by n k (Some (query a)) h g = stays n
closed_by n k (Some (change a)) h g = stays n

no_memory_is_not_ok : (r : Reply) → is_no_memory r ≡ true → is_ok r ≡ false
no_memory_is_not_ok Ok h = absurd (true≢false (sym h))
no_memory_is_not_ok (Count n) h = refl
no_memory_is_not_ok (Rows rows) h = refl
no_memory_is_not_ok (Done trace) h = refl
no_memory_is_not_ok (ByRule name trace) h = refl
no_memory_is_not_ok (ByError name r trace) h = refl
no_memory_is_not_ok (ByLimit trace) h = refl
no_memory_is_not_ok (No r) h = refl

module _ (tenant : ℕ) (bound : Bound) where
  end_is_ok : (state : State) (s : ℕ) → is_open (session_at state s) ≡ true → (reply_to_command tenant bound state s end_session).1 ≡ Ok
  end_is_ok state s up = ap (λ (b : Bool). (outcome_of tenant bound state s (first_of (not b) refusal.NotOpen None) (walk state.catalog end_session)).1) up

  -- a step that is numbered has the reply to its line
  told : (before : State) (e : Entry) (after : State) → IsStep tenant bound before e after → e.reply ≡ (reply_to tenant bound before e.session e.line).1
  told before e after s =
      elim (is_full_for before e.session e.line) as (λ b.
      let r : State × Answer = elim b [ true ↦ (before, record { number = None; reply = No refusal.TrailFull }) | false ↦ numbered before (reply_to tenant bound before e.session e.line) ] in
      r ≡ (after, record { number = Some (before.steps + 1); reply = e.reply }) → e.reply ≡ (reply_to tenant bound before e.session e.line).1) [
        | true ↦ λ h. absurd (none_is_none before.steps (ap (λ p. p.1.number) h))
        | false ↦ λ h. sym (ap (λ p. p.1.reply) h)
      ] s.1
    where
      none_is_none : (n : ℕ) → None ≡ Some (n + 1) → ⊥
      none_is_none n h = cc

  answered : (before : State) (e : Entry) (after : State) → IsNext tenant bound before e after → is_open (session_at before e.session) ≡ true → command_of e.line ≡ Some end_session → is_no_memory e.reply ≡ false → is_ok e.reply ≡ true
  answered before e after (is_one, inl s) up is memory =
      ap is_ok
      (told before e after s
      ∙ ap (λ (c : Option Command). let r : State × Reply = elim c [ None ↦ (before, No refusal.Syntax) | Some command ↦ reply_to_command tenant bound before e.session command ] in r.1) is
      ∙ end_is_ok before e.session up)
  answered before e after (is_one, inr abort) up is memory = absurd (true≢false (sym (ap is_no_memory abort.0) ∙ memory))

  pub ends_close : EndsClose tenant bound
  ends_close before after e next up =
      own_opens tenant bound before after e next
      ∙ ap (λ (b : Bool). elim (is_no_memory e.reply) [ true ↦ b | false ↦ open_by (command_of e.line) b ]) up
      ∙ closed_by (is_no_memory e.reply) (is_ok e.reply) (command_of e.line) (answered before e after next up) (no_memory_is_not_ok e.reply)
