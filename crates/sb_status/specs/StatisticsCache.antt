-- Promise: what was shown last is shown again, with an age.
use Rattle.std.specs.Prelude.{◌≡◌, ◌+◌, ◌-◌, ◌^◌, min, ℕ, Option, None, Some, IfSome, slice_get}
use Rattle.std.specs.Option.{option_flatten}
use Rattle.sb_status.specs.declared.view.TenantNumbers.{TenantNumbers}
use Rattle.sb_status.specs.declared.view.TenantView.{TenantView}
use Rattle.sb_status.specs.declared.statistics_cache.TakenNumbers.{TakenNumbers}
use Rattle.sb_status.specs.declared.statistics_cache.TakenView.{TakenView}
use Rattle.sb_status.specs.declared.statistics_cache.StatisticsCache.{StatisticsCache}
use Rattle.sb_status.specs.TenantViews.{IsViewAt}

-- what is kept of the numbers of the tenant at a place
abbrev pub kept_at : StatisticsCache → ℕ → Option TakenNumbers
kept_at cache place = option_flatten (slice_get cache.numbers.items place)

-- how many seconds old something is at most that was taken in a second
abbrev pub age_at : ℕ → ℕ → ℕ
age_at taken now = min (now - taken + 1) (2 ^ 64 - 1)

-- they are shown with their age
abbrev pub AreAgain : StatisticsCache → ℕ → ℕ → TenantNumbers → Type 0
AreAgain cache place now numbers =
    (kept : TakenNumbers) × (kept_at cache place ≡ Some kept) × (numbers ≡ record kept.numbers { age = Some (age_at kept.taken now) })

-- what a tenant was, with its age
abbrev pub aged : ℕ → TakenView → TakenView
aged now seen = record seen { view = record seen.view { numbers = record seen.view.numbers { age = Some (age_at seen.taken now) } } }

-- the tenant that was looked at last, and no other one, was so
abbrev pub IsAgain : Option TakenView → ℕ → TenantView → Type 0
IsAgain None place view = ⊥
IsAgain (Some seen) place view = (seen.place ≡ place) × (view ≡ seen.view)

-- it isn't the one at this place
abbrev pub IsUnseen : Option TakenView → ℕ → Type 0
IsUnseen None place = Unit {0}
IsUnseen (Some seen) place = seen.place ≡ place → ⊥

-- where the host's first tenant has this number, what is kept of a tenant is what the one at its place was
abbrev pub IsCacheOf : ℕ → StatisticsCache → Type 0
IsCacheOf first cache = IfSome cache.seen (λ seen. IsViewAt first seen.place seen.view)
