use Rattle.std.proofs.Common.{◌≡◌, ◌/◌, ◌∙◌, sym, ap, subst, true, Some, Ok, inl, codes}
use Rattle.std.specs.List.{slice_get}
use Rattle.std.specs.Vec.{with_item}
use Rattle.sb_tenant.specs.State.{State, session_at, is_open}
use Rattle.sb_cell.specs.contracts.cell.Cell.{the_view}
use Rattle.sb_cell.specs.Hosting.{IsAt}
use Rattle.sb_cell.specs.Tenants.{Cell, AnswersEvent, hosts, states}
use Rattle.sb_cell.proofs.Hosted.{read_at}
use Rattle.sb_cell.proofs.Memory.{shown_to}
use Rattle.sb_cell.proofs.Cells.{IsCalled, after_hosted, event, stepped}
use Rattle.sb_cell.proofs.cell.Cell.end.Goals as goal

pub end-requires-clause-in_step : goal.end-requires-clause-in_step
end-requires-clause-in_step c =
    let v = the_view c.self.inside in
    let hosted = subst (λ (x : Cell). hosts x c.args.tenant ≡ true) (sym c.self.view_is) c.requires.hosted in
    (v.index, (c.self.invariant.tenants (c.args.tenant / c.self.inside.stride) c.index_mut.result.now (read_at v c.args.tenant hosted c.index_mut.result.now c.index_mut.ensures.value)).in_step)

pub end-requires-clause-open : goal.end-requires-clause-open
end-requires-clause-open c =
    ap (λ (st : State). is_open (session_at st c.args.session))
    (shown_to (the_view c.self.inside) c.self.invariant c.args.self.now c.self.view_is c.args.tenant c.index_mut.result.now c.requires.hosted c.index_mut.ensures.value)
    ∙ c.requires.open

-- ---- the tenant that is there

hosted : (c : goal.After-self-1) → hosts (the_view c.self.inside) c.args.tenant ≡ true
hosted c = subst (λ (x : Cell). hosts x c.args.tenant ≡ true) (sym c.self.view_is) c.requires.hosted

at : (c : goal.After-self-1) → slice_get c.self.inside.tenants.items (c.args.tenant / c.self.inside.stride) ≡ Some c.index_mut.result.now
at c = read_at (the_view c.self.inside) c.args.tenant (hosted c) c.index_mut.result.now c.index_mut.ensures.value

was : (c : goal.After-self-1) → IsAt (the_view c.self.inside) (c.args.tenant / c.self.inside.stride) c.index_mut.result.now
was c = c.self.invariant.tenants (c.args.tenant / c.self.inside.stride) c.index_mut.result.now (at c)

called : (c : goal.After-self-1) → IsCalled (the_view c.self.inside) c.args.tenant c.args.session 0 c.index_mut.result.now c.end.new.self (the_view (record c.self.inside { log = c.end.new.log })).records
    (the_view (record c.self.inside { log = c.end.new.log })).clock (the_view c.self.inside).index
called c =
    let v = the_view c.self.inside in
    stepped v c.args.tenant c.args.session c.index_mut.result.now c.end.new.self _ _ _ (hosted c) c.end.ensures.made.1.2.0 (at c) c.end.ensures.legal (codes "end") c.end.result c.end.ensures.made (c.end.ensures.in_step v.index (was c).in_step)

pub invariant_of-self : goal.invariant_of-self
invariant_of-self c = after_hosted (the_view c.self.inside) c.self.invariant c.args.tenant c.args.session 0 c.index_mut.result.now c.end.new.self _ _ _ (called c)

-- the cell after it
abbrev after : goal.After-self-1 → Cell
after c = the_view (record c.self.inside { tenants = with_item c.self.inside.tenants (c.args.tenant / c.self.inside.stride) c.end.new.self; log = c.end.new.log })

pub returns-clause-step : goal.returns-clause-step
returns-clause-step c =
    subst (λ (x : Cell). AnswersEvent x c.args.tenant c.args.session (codes "end") (Ok c.end.result) (after c)) c.self.view_is
    (event (the_view c.self.inside) c.self.invariant c.args.tenant c.args.session 0 c.index_mut.result.now c.end.new.self _ _ _ (called c) (codes "end") (Ok c.end.result) (inl c.end.ensures.made.1))
