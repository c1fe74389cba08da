-- A tenant in another one's place, and what a renewal leaves.
use Rattle.std.proofs.Common.{◌≡◌, ◌∙◌, ℕ, ◌/◌, ◌≤◌, ◌==◌, Bool, true, false, cond, List, [], ◌∷◌, map, length, slice_set, Option, Some, None, IsTrue, IsFalse, refl, sym, ap, subst, arith}
use Rattle.std.specs.List.{slice_get}
use Rattle.std.proofs.lemmas.Option.{same_Some}
use Rattle.sb_tenant.specs.declared.bound.Bound.{Bound}
use Rattle.sb_rawlog.specs.Records.{Record}
use Rattle.sb_rawlog.specs.Sessions.{changes, records_by}
use Rattle.sb_catalog.specs.declared.rule.Rule.{Rule}
use Rattle.sb_catalog.specs.Definitions.{AreIndexed}
use Rattle.sb_tenant.specs.declared.reply.Entry.{Entry}
use Rattle.sb_tenant.specs.Alike.{AreAlikeAtRest, AreAlikeWithSessions}
use Rattle.sb_tenant.specs.Lending.{HoldRules, InStep}
use Rattle.sb_tenant.specs.Limits.{is_session}
use Rattle.sb_tenant.specs.Logged.{who_of}
use Rattle.sb_tenant.specs.State.{State, Session, closed, idle, active, session_at, is_open, changes_of}
use Rattle.sb_tenant.specs.Tenant.{Tenant, IsLegal, state}
use Rattle.sb_tenant.specs.Trail.{IsTrail, state_of}
use Rattle.sb_tenant.specs.Volumes.{AreClosed, following}
use Rattle.sb_cell.specs.Hosting.{IsAt, IsHosted}
use Rattle.sb_cell.specs.Memory.{AreInStep, HoldsTransactions}
use Rattle.sb_cell.specs.Renewal.{IsNextVolume, Renews}
use Rattle.sb_cell.specs.Renewing.{IsMadeNext, MayStand, Puts}
use Rattle.sb_cell.specs.Tenants.{Cell, IsSame, IsTenantOf, hosts, states, tenant_at, trail_of}
use Rattle.sb_cell.proofs.Cells.{IsCalled, after, after_hosted, is_same, others, own, own_before, untouched}
use Rattle.sb_cell.proofs.Hosted.{by_place, found, number_is}

-- ---- a tenant is put in another one's place

module _ (c : Cell) (h : IsHosted c) (next : Tenant) (stands : MayStand c next) (w : Tenant) (at : slice_get c.tenants (next.id / c.stride) ≡ Some w) where
  was : IsAt c (next.id / c.stride) w
  was = h.tenants (next.id / c.stride) w at

  called : IsCalled c next.id 0 0 w next c.records c.clock c.index
  called = record {
    hosted = stands.hosted;
    is_one = refl;
    at = at;
    same = (sym (was.id ∙ number_is c next.id h stands.hosted), stands.bound ∙ sym was.bound);
    legal = stands.legal;
    stays = untouched w next 0 c.records c.clock c.index stands.in_step;
  }

  pub put_hosted : IsHosted (record c { tenants = slice_set c.tenants (next.id / c.stride) next })
  put_hosted = after_hosted c h next.id 0 0 w next c.records c.clock c.index called

  pub puts : Puts c next w (record c { tenants = slice_set c.tenants (next.id / c.stride) next })
  puts = record {
    before = own_before c h next.id 0 0 w next c.records c.clock c.index called;
    behind = own c h next.id 0 0 w next c.records c.clock c.index called;
    others = others c h next.id 0 0 w next c.records c.clock c.index called;
    same = is_same c h next.id 0 0 w next c.records c.clock c.index called;
  }

-- ---- the fresh tenant may stand there

none_open : (x : Session) → is_open x ≡ false → changes_of x ≡ []
none_open closed e = refl
none_open idle e = absurd (cc e)
none_open (active changes marks) e = absurd (cc e)

no_records : (rs : List Record) → changes rs ≡ [] → rs ≡ []
no_records [] e = refl
no_records (r ∷ rs) e = absurd (cc e)

module _ (c : Cell) (fresh old : Tenant) (before : tenant_at c fresh.id ≡ Some old) (own : IsTenantOf c old) (number : old.id ≡ fresh.id) where
  pub shown_old : states c fresh.id ≡ state old
  shown_old = λ i. state_of (sym number i) (sym own.1 i) (trail_of (before i))

  module _ (holds : HoldsTransactions c) (steps : AreInStep c) (shut : AreClosed (state old)) (alike : AreAlikeAtRest (state old) (state fresh)) where
    none_by : (s : ℕ) → changes (records_by (who_of fresh.id s) c.records) ≡ []
    none_by s = holds (who_of fresh.id s) ∙ by (is_session s) refl
      where
        by : (b : Bool) → is_session s ≡ b → cond b (changes_of (session_at (states c fresh.id) s)) [] ≡ []
        by true is = none_open (session_at (states c fresh.id) s) (ap (λ (st : State). is_open (session_at st s)) shown_old ∙ shut s is)
        by false is = refl

    -- the log has nothing of the tenant, and the index has the fresh one's rules
    pub held : HoldRules fresh.id (state fresh).catalog.rules c.records c.index
    held = (
      λ s. no_records (records_by (who_of fresh.id s) c.records) (none_by s),
      subst (λ (rules : List Rule). AreIndexed c.index fresh.id rules) alike.catalogs.rules
          (subst (λ (id : ℕ). AreIndexed c.index id (state old).catalog.rules) number (steps fresh.id old before).indexed),
    )

    pub made_next : (next : Tenant) → next.id ≡ fresh.id → next.bound ≡ fresh.bound → next.trail ≡ fresh.trail → next.volume ≡ following old.volume (length old.trail) (length fresh.trail) → fresh.bound ≡ c.bound →
        IsLegal fresh → AreClosed (state fresh) → InStep next c.records c.clock c.index → IsMadeNext c fresh next
    made_next next id bound trail volume limit legal shut_too in_step = record {
      old = old;
      before = before;
      id = sym number;
      bounds = (own.1, limit);
      closed = shut;
      closed_too = shut_too;
      alike = alike;
      follows = record { id = id ∙ sym number; bound = bound ∙ limit ∙ sym own.1; trail = trail; volume = volume };
      stands = record {
        hosted = ap (hosts c) (id ∙ sym number) ∙ own.0;
        bound = bound ∙ limit;
        legal = subst (λ (t : ℕ × Bound × List Entry). IsTrail t.0 t.1 t.2) (λ i. (sym id i, sym bound i, sym trail i)) legal;
        in_step = in_step;
      };
    }

-- ---- the cell behind a renewal

module _ (c c' : Cell) (fresh next was : Tenant) (made : IsMadeNext c fresh next) (puts : Puts c next was c') where
  abbrev old : Tenant
  old = made.old

  next_id : next.id ≡ fresh.id
  next_id = made.follows.id ∙ sym made.id

  is_old : old ≡ was
  is_old = same_Some old was (sym made.before ∙ ap (tenant_at c) (sym next_id) ∙ puts.before)

  shown_before : states c fresh.id ≡ state old
  shown_before = λ i. state_of (made.id i) (sym made.bounds.0 i) (trail_of (made.before i))

  behind_is : tenant_at c' fresh.id ≡ Some next
  behind_is = ap (tenant_at c') (sym next_id) ∙ puts.behind

  shown_behind : states c' fresh.id ≡ state fresh
  shown_behind =
      (λ i. state_of fresh.id ((puts.same.2 ∙ sym made.bounds.1) i) (trail_of (behind_is i))) ∙ ap (state_of fresh.id fresh.bound) made.follows.trail

  both_closed : (s : ℕ) → IsTrue (is_session s) → is_open (session_at (state old) s) ≡ is_open (session_at (state fresh) s)
  both_closed s is = made.closed s is ∙ sym (made.closed_too s is)

  with_sessions : AreAlikeWithSessions (state old) (state fresh)
  with_sessions = record { at_rest = made.alike; sessions = both_closed }

  pub renews : Renews c was fresh c'
  renews = record {
    hosted = ap (hosts c) (sym next_id) ∙ made.stands.hosted;
    before = made.before ∙ ap (λ (t : Tenant). Some t) is_old;
    behind = (next, behind_is, subst (λ (t : Tenant). IsNextVolume t fresh next) is_old made.follows);
    closed = subst AreClosed (sym shown_before) made.closed;
    alike = subst (λ (p : State × State). AreAlikeWithSessions p.0 p.1) (λ i. (sym shown_before i, sym shown_behind i)) with_sessions;
    others = subst (λ (id : ℕ). (u : ℕ) → IsFalse (u == id) → tenant_at c' u ≡ tenant_at c u) next_id puts.others;
    same = puts.same;
  }

-- ---- whether there is a tenant

pub not_hosted : (c : Cell) (t : ℕ) → tenant_at c t ≡ None → hosts c t ≡ false
not_hosted c t none = by (hosts c t) refl
  where
    by : (b : Bool) → hosts c t ≡ b → b ≡ false
    by false is = refl
    by true is = let there = found c t is in let one = sym none ∙ by_place c t is ∙ there.1 in absurd (cc one)
