-- Promise: what a page shows of a tenant's numbers.
use Rattle.std.specs.Prelude.{◌≡◌, ◌+◌, ◌-◌, ◌^◌, ℕ, List, [], ◌∷◌, length, min, Some}
use Rattle.sb_status.specs.declared.view.TenantNumbers.{TenantNumbers}
use Rattle.sb_tenant.specs.declared.reply.Entry.{Entry}
use Rattle.sb_tenant.specs.declared.volume.Volume.{Volume}
use Rattle.sb_tenant.specs.Limits.{trail_limit}
use Rattle.sb_tenant.specs.Tenant.{Tenant, state}
use Rattle.sb_status.specs.declared.tenant_counts.Counting.{Counting}

-- the steps that sessions made up to the end of a volume with so many entries, as far as a number of 64 bits can tell
abbrev pub steps_made : Volume → ℕ → ℕ
steps_made volume entries = min (volume.before + (entries - volume.opening)) (2 ^ 64 - 1)

-- where the host's first tenant has this number: the tenant's own, the steps and the room of its trail, the steps of its life, how many rules it has, and the number of its volume
pub record AreNumbersOf (first : ℕ) (own : Tenant) (numbers : TenantNumbers) : Type 0 where
  pub tenant : numbers.tenant ≡ first + own.id
  pub steps : numbers.steps ≡ length own.trail
  pub made : numbers.steps_made ≡ steps_made own.volume (length own.trail)
  pub room : numbers.room ≡ trail_limit - length own.trail
  pub rules : numbers.rules ≡ length (state own).catalog.rules
  pub volume : numbers.volume ≡ own.volume.number

-- the numbers of a tenant with a trail are noted, and nothing of any other
abbrev pub NotesBy : List Entry → Counting → Tenant → Counting → Type 0
NotesBy [] old own new = new ≡ old
NotesBy (e ∷ es) old own new = (numbers : TenantNumbers) × (new.numbers ≡ Some numbers) × AreNumbersOf old.first_tenant own numbers

abbrev pub Notes : Counting → Tenant → Counting → Type 0
Notes old own new = NotesBy own.trail old own new
