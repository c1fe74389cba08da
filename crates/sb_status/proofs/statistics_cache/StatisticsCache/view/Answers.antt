use Rattle.std.proofs.Common.{◌≡◌, ℕ, Option, subst}
use Rattle.std.specs.Prelude.{IfSome, Some}
use Rattle.sb_status.specs.TenantViews.{IsViewAt}
use Rattle.sb_status.specs.declared.statistics_cache.TakenView.{TakenView}
use Rattle.sb_status.proofs.statistics_cache.StatisticsCache.view.Goals as goal

-- what is kept is of the tenant at its place
seen_at : (first place : ℕ) (kept : Option TakenView) (seen : TakenView) → kept ≡ Some seen → seen.place ≡ place
    → IfSome kept (λ s. IsViewAt first s.place s.view) → IsViewAt first place seen.view
seen_at first place kept seen is here own =
    subst (λ (p : ℕ). IsViewAt first p seen.view) here (subst (λ (k : Option TakenView). IfSome k (λ s. IsViewAt first s.place s.view)) is own)

pub returns-in-Some-clause-own : goal.returns-in-Some-clause-own
returns-in-Some-clause-own c first own = seen_at first c.args.place c.args.self.now.seen c.in-Some.seen c.in-Some.is c.if-seen-place.true own
