-- What pages show of tenants.
use Rattle.std.proofs.Common.{◌≡◌, ◌∙◌, ◌⊎◌, ◌+◌, ◌<◌, ◌≤◌, ◌==◌, ◌≢◌, ℕ, true, false, List, length, refl, sym, ap, subst, inl, inr, arith}
use Rattle.std.specs.Prelude.{slice_index_or, slice_set}
use Rattle.std.proofs.Math.ListN.{length-set}
use Rattle.std.proofs.lemmas.Bool.Decides.{eqb_tells}
use Rattle.std.proofs.lemmas.List.{get_or-set_other, get_or-set_same, get_or_default}
use Rattle.sb_status.specs.TenantViews.{AreSessionsOf, OnlyAges}
use Rattle.sb_status.specs.declared.view.SessionView.{SessionView}
use Rattle.sb_tenant.specs.Tenant.{Tenant}
use Rattle.sb_monitor.specs.Pages.{IsHosted}

-- ---- numbers of tenants

pub is_hosted : (first tenants n place : ℕ) → place < tenants → n ≡ first + place → IsHosted first tenants n
is_hosted first tenants n place within is = (omega arith, omega arith)

pub not_hosted : (first tenants n : ℕ) → (n < first) ⊎ (first + tenants ≤ n) → IsHosted first tenants n → ⊥
not_hosted first tenants n (inl below) hosted = omega (arith, hosted.0)
not_hosted first tenants n (inr above) hosted = omega (arith, hosted.1)

-- ---- ages

pub same_ages : (sessions : List SessionView) → OnlyAges sessions sessions
same_ages sessions = record { all = refl; states = λ s d. refl }

state-set : (sessions : List SessionView) (n : ℕ) (session : SessionView) → n < length sessions → session.state ≡ (slice_index_or sessions n session).state
    → (s : ℕ) (d : SessionView) → (slice_index_or (slice_set sessions n session) s d).state ≡ (slice_index_or sessions s d).state
state-set sessions n session within same s d = by (eqb_tells s n)
  where
    at_n : (slice_index_or (slice_set sessions n session) n d).state ≡ (slice_index_or sessions n d).state
    at_n =
        ap (λ (x : SessionView). x.state) (get_or-set_same sessions n session d within) ∙ same
        ∙ ap (λ (x : SessionView). x.state) (get_or_default sessions n session d within)

    by : (((s == n) ≡ true) × (s ≡ n)) ⊎ (((s == n) ≡ false) × (s ≢ n)) → (slice_index_or (slice_set sessions n session) s d).state ≡ (slice_index_or sessions s d).state
    by (inl here) = subst (λ (k : ℕ). (slice_index_or (slice_set sessions n session) k d).state ≡ (slice_index_or sessions k d).state) (sym here.1) at_n
    by (inr other) = ap (λ (x : SessionView). x.state) (get_or-set_other sessions n s session d other.1)

pub one_more_age : (old new : List SessionView) (n : ℕ) (session : SessionView) → OnlyAges old new → n < length new → session.state ≡ (slice_index_or new n session).state
    → OnlyAges old (slice_set new n session)
one_more_age old new n session ages within same = record {
  all = length-set new n session ∙ ages.all;
  states = λ s d. state-set new n session within same s d ∙ ages.states s d;
}

pub aged_sessions : (own : Tenant) (n : ℕ) (old new : List SessionView) → AreSessionsOf own n old → OnlyAges old new → AreSessionsOf own n new
aged_sessions own n old new are ages = record {
  all = ages.all ∙ are.all;
  each = λ s d within. ages.states s d ∙ are.each s d within;
}
