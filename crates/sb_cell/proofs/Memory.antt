-- What the log and the index of a cell hold.
use Rattle.std.proofs.Common.{◌≡◌, ℕ, ◌/◌, true, false, cond, ◌&&◌, [], Some, get_or, refl, sym, ap, ◌∙◌, subst}
use Rattle.std.specs.List.{slice_get}
use Rattle.std.proofs.Math.Bool.{and-false}
use Rattle.sb_value.specs.declared.id.Who.{Who}
use Rattle.sb_rawlog.specs.Sessions.{changes, changes_by}
use Rattle.sb_catalog.specs.Definitions.{AreIndexed}
use Rattle.sb_tenant.specs.Limits.{is_session}
use Rattle.sb_tenant.specs.Logged.{who_of}
use Rattle.sb_tenant.specs.State.{State, session_at, changes_of}
use Rattle.sb_tenant.specs.Tenant.{Tenant, state}
use Rattle.sb_tenant.specs.Trail.{state_of}
use Rattle.sb_cell.specs.Hosting.{IsHosted}
use Rattle.sb_cell.specs.Memory.{HoldsTransactions, HoldsRules, AreInStep}
use Rattle.sb_cell.specs.Tenants.{Cell, hosts, states, tenant_at, trail_of}
use Rattle.sb_cell.proofs.Hosted.{at_place, by_place, found, nobody, number_is, read_at}

module _ (c : Cell) (h : IsHosted c) where
  pub are_in_step : AreInStep c
  are_in_step t w at = (h.tenants (t / c.stride) w (at_place c t w at)).in_step

  -- a hosted tenant has its number, and the state that the cell shows
  own : (t : ℕ) → hosts c t ≡ true → (w : Tenant) × (tenant_at c t ≡ Some w) × (w.id ≡ t) × (state w ≡ states c t)
  own t hosted =
      let f = found c t hosted in
      let here = h.tenants (t / c.stride) f.0 f.1 in
      let at : tenant_at c t ≡ Some f.0 = by_place c t hosted ∙ f.1 in
      let id : f.0.id ≡ t = here.id ∙ number_is c t h hosted in
      (f.0, at, id, (λ i. state_of (id i) (here.bound i) (trail_of (sym at i))))

  of_tenant : (who : Who) → is_session who.session ≡ true → hosts c who.tenant ≡ true → changes_by who c.records ≡ changes_of (session_at (states c who.tenant) who.session)
  of_tenant who is_one hosted =
      let o = own who.tenant hosted in
      let held = (are_in_step who.tenant o.0 o.1).transactions who.session is_one in
      ap (λ i. changes_by (who_of i who.session) c.records) (sym o.2) ∙ held ∙ ap (λ (st : State). changes_of (session_at st who.session)) o.3

  of_nobody : (who : Who) → hosts c who.tenant ≡ false → changes_by who c.records ≡ changes_of (session_at (states c who.tenant) who.session)
  of_nobody who other =
      ap changes (h.records who (ap (λ b. b && is_session who.session) other)) ∙ ap (λ (st : State). changes_of (session_at st who.session)) (nobody c who.tenant other)

  pub holds_transactions : HoldsTransactions c
  holds_transactions who =
      elim (is_session who.session) as (λ b. is_session who.session ≡ b → changes_by who c.records ≡ cond b (changes_of (session_at (states c who.tenant) who.session)) []) [
        | true ↦ λ is_one.
            elim (hosts c who.tenant) as (λ b. hosts c who.tenant ≡ b → changes_by who c.records ≡ changes_of (session_at (states c who.tenant) who.session)) [
              | true ↦ of_tenant who is_one
              | false ↦ of_nobody who
            ] refl
        | false ↦ λ none. ap changes (h.records who (ap (λ b. hosts c who.tenant && b) none ∙ and-false (hosts c who.tenant)))
      ] refl

  pub holds_rules : HoldsRules c
  holds_rules t =
      elim (hosts c t) as (λ b. hosts c t ≡ b → AreIndexed c.index t (states c t).catalog.rules) [
        | true ↦ λ hosted.
            let o = own t hosted in
            subst (λ (st : State). AreIndexed c.index t st.catalog.rules) o.3
            (subst (λ (i : ℕ). AreIndexed c.index i (state o.0).catalog.rules) o.2 (are_in_step t o.0 o.1).indexed)
        | false ↦ λ other. subst (λ (st : State). AreIndexed c.index t st.catalog.rules) (nobody c t other) (h.rules t other)
      ] refl

  -- a tenant that is there has the state that the cell shows
  pub shown : (t : ℕ) (w : Tenant) → hosts c t ≡ true → slice_get c.tenants (t / c.stride) ≡ Some w → state w ≡ states c t
  shown t w hosted at =
      let here = h.tenants (t / c.stride) w at in
      let id : w.id ≡ t = here.id ∙ number_is c t h hosted in
      λ i. state_of (id i) (here.bound i) (trail_of (sym (by_place c t hosted ∙ at) i))

  -- the tenant that is read at its place of a cell that is seen so has the state that is seen
  pub shown_to : (seen : Cell) → c ≡ seen → (t : ℕ) (w : Tenant) → hosts seen t ≡ true → w ≡ get_or c.tenants (t / c.stride) w → state w ≡ states seen t
  shown_to seen is t w hosted read =
      let here : hosts c t ≡ true = subst (λ (x : Cell). hosts x t ≡ true) (sym is) hosted in
      shown t w here (read_at c t here w read) ∙ ap (λ (x : Cell). states x t) is
