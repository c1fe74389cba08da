use Rattle.std.proofs.Common.{◌≡◌, ◌∙◌, ◌++◌, ◌∷◌, [], List, ℕ, ap, sym, subst, refl, codes, true, Some, arith}
use Rattle.sb_index.specs.TableSets.{TableSets}
use Rattle.sb_tenant.specs.declared.reply.Reply.TheVariants.{Ok}
use Rattle.sb_tenant.specs.State.{session_at, is_open}
use Rattle.sb_tenant.specs.Remembered.{seen}
use Rattle.sb_tenant.specs.Tenant.{Tenant, IsSame, MakesStep, state}
use Rattle.sb_tenant.specs.Lending.{InStep, StaysInStep}
use Rattle.sb_tenant.specs.Trail.{entry_of}
use Rattle.sb_tenant.specs.declared.tenant.Tenant.TheInside.{Inside}
use Rattle.sb_tenant.proofs.Steps.{IsEntered, few_entries, ended, ended_fewer, ended_state, entered_in_step, entered_legal, entered_made, entered_remembered}
use Rattle.sb_tenant.proofs.tenant.Tenant.end.Given.{Over}
use Rattle.sb_tenant.proofs.tenant.Tenant.end.Goals as goal

pub put-requires-clause-few : goal.put-requires-clause-few
put-requires-clause-few g c = few_entries (seen c.self.inside) c.self.invariant.legal

up : (g : Over) (c : goal.After-put g) → is_open (session_at (state (seen c.self.inside)) c.args.session) ≡ true
up g c = subst (λ (v : Tenant). is_open (session_at (state v) c.args.session) ≡ true) (sym c.self.view_is) c.requires.open

in_step : (g : Over) (c : goal.After-put g) (index : List (List TableSets)) → InStep c.args.self.now (g.L.ChangeLog.records c.args.log.now) (g.L.ChangeLog.clock c.args.log.now) index →
    InStep (seen c.self.inside) (g.L.ChangeLog.records c.args.log.now) (g.L.ChangeLog.clock c.args.log.now) index
in_step g c index = subst (λ (v : Tenant). InStep v (g.L.ChangeLog.records c.args.log.now) (g.L.ChangeLog.clock c.args.log.now) index) (sym c.self.view_is)

longer : (g : Over) (c : goal.After-put g) → c.put.new.trail.items ≡ c.self.inside.trail.items ++ entry_of c.args.session (codes "end") Ok ∷ []
longer g c = c.put.ensures.items ∙ ap (λ (l : List ℕ). c.self.inside.trail.items ++ entry_of c.args.session l Ok ∷ []) c.take-line.ensures.line

-- the fields after it
abbrev after : (g : Over) → goal.After-put g → Inside
after g c = record c.self.inside { store = c.end.new.self; trail = c.put.new.trail; end_lines = c.take-line.new.self; quota = c.count_entry.new.self }

same : (g : Over) (c : goal.After-put g) → IsSame (seen c.self.inside) (seen (after g c))
same g c = (c.end.ensures.leaves.id, refl, refl)

entered : (g : Over) (c : goal.After-put g) (index : List (List TableSets)) (agrees : InStep (seen c.self.inside) (g.L.ChangeLog.records c.args.log.now) (g.L.ChangeLog.clock c.args.log.now) index) →
    IsEntered (seen c.self.inside).id (seen c.self.inside).bound (seen c.self.inside).trail c.args.session (codes "end") Ok c.end.new.self (g.L.ChangeLog.records c.end.new.log) (g.L.ChangeLog.clock c.end.new.log) index
    (ended_state c.self.inside (after g c) c.self.invariant c.args.session c.in_range.ensures (up g c) (g.L.ChangeLog.records c.args.log.now) (g.L.ChangeLog.records c.end.new.log) (g.L.ChangeLog.clock c.args.log.now) (g.L.ChangeLog.clock c.end.new.log) c.end.ensures.ended)
entered g c index agrees =
    ended c.self.inside (after g c) c.self.invariant c.args.session c.in_range.ensures (up g c) (g.L.ChangeLog.records c.args.log.now) (g.L.ChangeLog.records c.end.new.log) (g.L.ChangeLog.clock c.args.log.now) (g.L.ChangeLog.clock c.end.new.log)
    c.end.ensures.ended index agrees

pub invariant_of-self : goal.invariant_of-self
invariant_of-self g c =
    let index = c.requires.in_step.0 in
    let e = entered g c index (in_step g c index c.requires.in_step.1) in
    let fewer = ended_fewer c.self.inside (after g c) c.self.invariant c.args.session c.in_range.ensures (up g c) (g.L.ChangeLog.records c.args.log.now) (g.L.ChangeLog.records c.end.new.log) (g.L.ChangeLog.clock c.args.log.now) (g.L.ChangeLog.clock c.end.new.log) c.end.ensures.ended in
    entered_remembered c.self.inside (after g c) c.self.invariant (same g c) c.args.session (codes "end") Ok _ _ _ _ index index _ 0 c.end.ensures.leaves (longer g c) e (omega arith)
    (omega (arith, fewer, c.self.invariant.places, c.put.ensures.len, c.put.ensures.capacity)) (omega (arith, fewer, c.self.invariant.ends, c.take-line.ensures.left))

pub returns-clause-made : goal.returns-clause-made
returns-clause-made g c =
    let index = c.requires.in_step.0 in
    subst (λ (v : Tenant). MakesStep v c.args.session (codes "end") (record { number = Some c.put.result; reply = Ok }) (seen (after g c))) c.self.view_is
    (entered_made c.self.inside (after g c) c.self.invariant (same g c) c.args.session (codes "end") Ok _ _ _ _ index index _ 0 c.end.ensures.leaves (longer g c) (entered g c index (in_step g c index c.requires.in_step.1)) c.put.result c.put.ensures.number)

pub returns-clause-legal : goal.returns-clause-legal
returns-clause-legal g c =
    let index = c.requires.in_step.0 in
    entered_legal c.self.inside (after g c) c.self.invariant (same g c) c.args.session (codes "end") Ok _ _ _ _ index index _ 0 c.end.ensures.leaves (longer g c) (entered g c index (in_step g c index c.requires.in_step.1))

pub returns-clause-in_step : goal.returns-clause-in_step
returns-clause-in_step g c = λ index agrees.
    subst (λ (v : Tenant). StaysInStep 0 v (seen (after g c)) c.args.session (g.L.ChangeLog.records c.args.log.now) (g.L.ChangeLog.records c.end.new.log) (g.L.ChangeLog.clock c.args.log.now) (g.L.ChangeLog.clock c.end.new.log) index index) c.self.view_is
    (entered_in_step c.self.inside (after g c) c.self.invariant (same g c) c.args.session (codes "end") Ok _ _ _ _ index index _ 0 c.end.ensures.leaves (longer g c) (entered g c index (in_step g c index agrees)) (λ n table operation rule other. refl))
