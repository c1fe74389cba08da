-- Promise: a tenant whose trail is renewed answers as an engine whose trail never fills.
use Rattle.std.specs.Prelude.{◌≡◌, ◌≤◌, ◌<◌, ℕ, ◌+◌, List, [], ◌∷◌, ◌++◌, map, flat_map, length, codes, Some, All, IsTrue}
use Rattle.sb_tenant.specs.declared.bound.Bound.{Bound}
use Rattle.sb_tenant.specs.declared.reply.Answer.{Answer}
use Rattle.sb_tenant.specs.declared.reply.Entry.{Entry}
use Rattle.sb_tenant.specs.declared.reply.Reply.{Reply}
use Rattle.sb_tenant.specs.declared.reply.Reply.TheVariants.{Ok}
use Rattle.sb_tenant.specs.Alike.{IsAtRest, AreAlikeWithSessions}
use Rattle.sb_tenant.specs.Limits.{is_session, trail_limit}
use Rattle.sb_tenant.specs.State.{State, opening, closed, idle, session_at, with_session}
use Rattle.sb_tenant.specs.Step.{step}
use Rattle.sb_tenant.specs.Trail.{IsLegal, answers, state_after}

-- a volume: the state in which it begins, and the lines that are sent then, each with its session
pub record VolumeRun : Type 0 where
  pub begins : State
  pub lines : List (ℕ × List ℕ)

abbrev pub lines_of : List VolumeRun → List (ℕ × List ℕ)
lines_of volumes = flat_map (λ v. v.lines) volumes

module _ (tenant : ℕ) (bound : Bound) where
  -- ---- the engine whose trail never fills

  -- its steps are those of a tenant that has made none
  abbrev pub endless_step : State → ℕ → List ℕ → State × Answer
  endless_step state s line = step tenant bound (record state { steps = 0 }) s line

  -- its replies to these lines of these sessions, one after another
  abbrev pub endless_replies : State → List (ℕ × List ℕ) → List Reply
  endless_replies state [] = []
  endless_replies state (e ∷ es) = let r = endless_step state e.0 e.1 in r.1.reply ∷ endless_replies r.0 es

  -- ---- a life in volumes

  -- a legal trail leads to it
  abbrev pub IsReached : State → Type 0
  IsReached state = (trail : List Entry) × IsLegal tenant bound opening trail state

  -- a volume begins at rest, and its trail has a place for each line
  pub record IsVolume (v : VolumeRun) : Type 0 where
    pub reached : IsReached v.begins
    pub at_rest : IsAtRest v.begins
    pub sessions : All (λ e. IsTrue (is_session e.0)) v.lines
    pub room : v.begins.steps + length v.lines ≤ trail_limit

  -- each volume but the first begins in a state that is alike to the one in which the volume before it ends, with the same sessions open
  abbrev pub AreVolumes : VolumeRun → List VolumeRun → Type 0
  AreVolumes v [] = IsVolume v
  AreVolumes v (w ∷ volumes) =
      IsVolume v × AreAlikeWithSessions (state_after tenant bound v.begins v.lines) w.begins × AreVolumes w volumes

  -- the replies in all volumes, one after another
  abbrev pub replies_in : List VolumeRun → List Reply
  replies_in volumes = flat_map (λ v. map (λ a. a.reply) (answers tenant bound v.begins v.lines)) volumes

  -- no reply shows that there is more than one volume
  abbrev pub RenewalIsUnseen : Type 0
  RenewalIsUnseen =
      (first : VolumeRun) (others : List VolumeRun) → AreVolumes first others →
      replies_in (first ∷ others) ≡ endless_replies first.begins (lines_of (first ∷ others))

  -- ---- between two volumes the open sessions are ended, and opened again

  -- the `end` of a session that has no transaction closes it, and changes nothing else but the number of steps
  abbrev pub EndsAlone : Type 0
  EndsAlone =
      (state : State) (s : ℕ) → IsReached state → session_at state s ≡ idle →
      step tenant bound state s (codes "end")
      ≡ (record (with_session state s closed) { steps = state.steps + 1 }, record { number = Some (state.steps + 1); reply = Ok })

  -- the `open` of a closed session opens it, and changes nothing else but that
  abbrev pub OpensAlone : Type 0
  OpensAlone =
      (state : State) (s : ℕ) → session_at state s ≡ closed → state.steps < trail_limit →
      step tenant bound state s (codes "open")
      ≡ (record (with_session state s idle) { steps = state.steps + 1 }, record { number = Some (state.steps + 1); reply = Ok })
