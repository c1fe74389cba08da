-- Promise: a session that has its tenant for itself is told what the one-tenant engine tells it.
use Rattle.std.specs.Prelude.{◌≡◌, ◌<◌, ⊤, ℕ, ◌==◌, if◌then◌else◌, false, List, [], ◌∷◌, ◌++◌, flat_map, codes, Result, Ok, Err}
use Rattle.std.specs.List.{AllByRecursion}
use Rattle.sb_tenant.specs.declared.bound.Bound.{Bound}
use Rattle.sb_value.specs.declared.refusal.Refusal.TheVariants.{NoMemory}
use Rattle.sb_tenant.specs.declared.reply.Answer.{Answer}
use Rattle.sb_tenant.specs.declared.reply.Reply.TheVariants.{No}
use Rattle.sb_tenant.specs.Limits.{session_count}
use Rattle.sb_tenant.specs.State.{State, opening}
use Rattle.sb_tenant.specs.Step.{step}
use Rattle.sb_tenant.specs.Closing.{closes}
use Rattle.sb_desk.specs.declared.desk.CallError.{CallError}
use Rattle.sb_desk.specs.declared.desk.CallError.TheVariants as call
use Rattle.sb_replay.specs.Input.{commands_for}
use Rattle.sb_replay.specs.Replay.{Replays, text_at}
use Rattle.sb_replay.specs.Sessions.{is_absent, told_text}

-- memory didn't run out, and the trail had a place
abbrev pub IsServed : Result Answer CallError → Type 0
IsServed (Ok answer) = (answer.reply ≡ No NoMemory → ⊥) × (is_absent answer.number ≡ false)
IsServed (Err call.Ended) = ⊤
IsServed (Err call.NotBegun) = ⊥

module _ (bound : Bound) (t s : ℕ) where
  -- behind an `end` no session is open
  abbrev pub text_behind : List (List ℕ) → List ℕ
  text_behind commands = flat_map (λ c. told_text t s (Err call.Ended)) commands

  -- what tells the answers to these commands, one after another, up to an `end`
  abbrev pub text_alone : State → List (List ℕ) → List ℕ
  text_alone state [] = []
  text_alone state (c ∷ commands) =
      let r = step t bound state s c in
      told_text t s (Ok r.1) ++ (if closes c r.1.reply then text_behind commands else text_alone r.0 commands)

  -- from its `open`
  abbrev pub opened_text : List (List ℕ) → List ℕ
  opened_text commands = text_alone (step t bound opening s (codes "open")).0 commands

-- The other sessions of its tenant have no commands: then the session's text depends on its own commands alone, whatever other tenants
-- sent, and however many cells and workers there were.
abbrev pub TellsAsAlone : {tenants : ℕ} {bound : Bound} {input text : List ℕ} → Replays tenants bound input text → Type 0
TellsAsAlone {tenants} {bound} r =
    (t s : ℕ) (there : t < tenants) (one : s < session_count)
    → ((o : ℕ) → o < session_count → (o == s) ≡ false → commands_for t o r.asks ≡ [])
    → AllByRecursion (λ e. IsServed e.given) (r.attends t s there one).exchanges
    → text_at r.texts t s ≡ opened_text bound t s (commands_for t s r.asks)
