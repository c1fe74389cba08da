-- The events of a run.
use Rattle.std.proofs.Common.{◌≡◌, ℕ, ◌/◌, ◌%◌, Bool, true, false, ◌&&◌, ◌==◌, nat_lt, List, [], ◌∷◌, ◌++◌, length, Result, IsTrue, sym, ap, ◌∙◌, subst}
use Rattle.sb_tenant.specs.declared.bound.Bound.{Bound}
use Rattle.sb_tenant.specs.declared.reply.Answer.{Answer}
use Rattle.sb_tenant.specs.declared.reply.Entry.{Entry}
use Rattle.sb_tenant.specs.Limits.{is_session}
use Rattle.sb_tenant.specs.Trail.{IsTrail}
use Rattle.sb_cell.specs.declared.Event.{Event}
use Rattle.sb_cell.specs.declared.StepError.{StepError}
use Rattle.sb_cell.specs.Events.{IsEvent, AreEvents}
use Rattle.sb_cell.specs.Hosting.{IsHosted}
use Rattle.sb_cell.specs.Tenants.{Cell, IsSame, AnswersBy, AnswersEvent, hosts, trail_of, trails}
use Rattle.sb_cell.proofs.Hosted.{by_place, found, number_is}
use Rattle.sb_cell.proofs.Turns.{events-one_more}

module _ (old new : Cell) (e : Event) (given : Result Answer StepError) where
  trails_by : (h b : Bool) → AnswersBy h b old e.tenant e.session e.line given new → IsEvent old.bound h b (trails old) e given (trails new)
  trails_by false b p = (p.0, ap trails p.1)
  trails_by true false p = (p.0, ap trails p.1)
  trails_by true true (turn, others, same) = (turn, λ u other. ap trail_of (others u other))

  same_by : (h b : Bool) → AnswersBy h b old e.tenant e.session e.line given new → IsSame old new
  same_by false b p = let is = p.1 in (ap (λ (c : Cell). c.first) is, ap (λ (c : Cell). c.stride) is, ap (λ (c : Cell). c.bound) is, ap (λ (c : Cell). length c.tenants) is)
  same_by true false p = let is = p.1 in (ap (λ (c : Cell). c.first) is, ap (λ (c : Cell). c.stride) is, ap (λ (c : Cell). c.bound) is, ap (λ (c : Cell). length c.tenants) is)
  same_by true true (turn, others, same) = same

pub same_more : (first mid new : Cell) (e : Event) (given : Result Answer StepError) → IsSame first mid → AnswersEvent mid e.tenant e.session e.line given new → IsSame first new
same_more first mid new e given same answers =
    let next = same_by mid new e given (hosts mid e.tenant) (is_session e.session) answers in (next.0 ∙ same.0, next.1 ∙ same.1, next.2 ∙ same.2, next.3 ∙ same.3)

-- one event more
pub more : (first mid new : Cell) (events : List Event) (answers : List (Result Answer StepError)) (e : Event) (given : Result Answer StepError) → IsSame first mid →
    AreEvents first.bound (hosts first) (trails first) events answers (trails mid) → AnswersEvent mid e.tenant e.session e.line given new →
    AreEvents first.bound (hosts first) (trails first) (events ++ e ∷ []) (answers ++ given ∷ []) (trails new)
more first mid new events answers e given same p one = events-one_more first.bound (hosts first) events answers (trails first) (trails mid) (trails new) e given p event
  where
    hosted : hosts mid e.tenant ≡ hosts first e.tenant
    hosted = λ i. (e.tenant % same.1 i == same.0 i) && nat_lt (e.tenant / same.1 i) (same.3 i)

    event : IsEvent first.bound (hosts first e.tenant) (is_session e.session) (trails mid) e given (trails new)
    event =
        subst (λ (h : Bool). IsEvent first.bound h (is_session e.session) (trails mid) e given (trails new)) hosted
        (subst (λ (k : Bound). IsEvent k (hosts mid e.tenant) (is_session e.session) (trails mid) e given (trails new)) same.2
        (trails_by mid new e given (hosts mid e.tenant) (is_session e.session) one))

-- the trails of hosted tenants are legal
pub begins_legal : (c : Cell) → IsHosted c → (t : ℕ) → IsTrue (hosts c t) → IsTrail t c.bound (trails c t)
begins_legal c h t hosted =
    let f = found c t hosted in
    let at = h.tenants (t / c.stride) f.0 f.1 in
    subst (λ (es : List Entry). IsTrail t c.bound es) (ap trail_of (sym (by_place c t hosted ∙ f.1)))
    (subst (λ (k : Bound). IsTrail t k f.0.trail) at.bound
    (subst (λ (i : ℕ). IsTrail i f.0.bound f.0.trail) (at.id ∙ number_is c t h hosted) at.legal))
