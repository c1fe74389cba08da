-- Promise: a tenant as its users see it: its number, its bound, its trail with its volume, and a time for each mark. Its state is the trail's replay.
use Rattle.std.specs.Prelude.{◌≡◌, ℕ, List, []}
use Rattle.sb_tenant.specs.declared.bound.Bound.{Bound}
use Rattle.sb_process.specs.Transactions.{Kept}
use Rattle.sb_tenant.specs.declared.reply.Entry.{Entry}
use Rattle.sb_tenant.specs.declared.reply.Answer.{Answer}
use Rattle.sb_tenant.specs.declared.volume.Volume.{Volume}
use Rattle.sb_tenant.specs.State.{State}
use Rattle.sb_tenant.specs.Trail.{state_of, IsTrail, Steps, Extends, IsNotBegun}
use Rattle.sb_tenant.specs.Volumes.{first_volume}

-- a number, how much a step may do, the entries so far, which volume of its life they are,
-- and what is kept of the sessions' transactions beside the log
pub record Tenant : Type 0 where
  pub id : ℕ
  pub bound : Bound
  pub trail : List Entry
  pub volume : Volume
  pub transactions : Kept

-- the state that its trail gives
abbrev pub state : Tenant → State
state t = state_of t.id t.bound t.trail

-- its trail is legal
abbrev pub IsLegal : Tenant → Type 0
IsLegal t = IsTrail t.id t.bound t.trail

-- before the first step
abbrev pub IsNew : ℕ → Bound → Tenant → Type 0
IsNew id bound t = (t.id ≡ id) × (t.bound ≡ bound) × (t.trail ≡ []) × (t.volume ≡ first_volume)

-- its number, its bound and its volume stay
abbrev pub IsSame : Tenant → Tenant → Type 0
IsSame old new = (new.id ≡ old.id) × (new.bound ≡ old.bound) × (new.volume ≡ old.volume)

-- it is a step, or is refused by the full trail
abbrev pub AnswersLine : Tenant → ℕ → List ℕ → Answer → Tenant → Type 0
AnswersLine old s line answer new = IsSame old new × Steps old.id old.bound old.trail s line answer new.trail

-- it is a step
abbrev pub MakesStep : Tenant → ℕ → List ℕ → Answer → Tenant → Type 0
MakesStep old s line answer new = IsSame old new × Extends old.id old.bound old.trail s line answer new.trail

-- it isn't begun, and nothing changes
abbrev pub LeavesLine : Tenant → ℕ → List ℕ → Tenant → Type 0
LeavesLine old s line new = (new ≡ old) × IsNotBegun old.id old.bound old.trail s line new.trail
