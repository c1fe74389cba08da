use Rattle.std.proofs.Common.{subst, sym}
use Rattle.sb_tenant.specs.Lending.{HoldRules}
use Rattle.sb_tenant.specs.Remembered.{seen}
use Rattle.sb_tenant.specs.Tenant.{Tenant, state}
use Rattle.sb_tenant.specs.Volumes.{AreClosed}
use Rattle.sb_tenant.proofs.Settling.{settled_agrees, settled_holds}
use Rattle.sb_tenant.proofs.tenant.Tenant.settle.Goals as goal

shut : (c : goal.After-drop-self-inside) → AreClosed (state (seen c.self.inside))
shut c = subst (λ (v : Tenant). AreClosed (state v)) (sym c.self.view_is) c.requires.closed

pub invariant_of-self : goal.invariant_of-self
invariant_of-self c = record {
  legal = c.self.invariant.legal;
  holds = (c.self.invariant.holds.0, settled_holds c.self.invariant.holds.0 c.self.inside.store (state (seen c.self.inside)) c.new.result (shut c) c.self.invariant.holds.1);
  bound = c.self.invariant.bound;
  numbers = c.self.invariant.numbers;
  places = c.self.invariant.places;
  ends = c.self.invariant.ends;
}

pub returns-clause-kept : goal.returns-clause-kept
returns-clause-kept c = λ i. record (c.self.view_is i) { transactions = c.new.result }

pub returns-clause-in_step : goal.returns-clause-in_step
returns-clause-in_step c = λ records clock index held.
    settled_agrees (seen c.self.inside).id (state (seen c.self.inside)) c.new.result (shut c) c.new.ensures.marks c.new.ensures.tested records clock index
    (subst (λ (v : Tenant). HoldRules v.id (state v).catalog.rules records index) (sym c.self.view_is) held)
