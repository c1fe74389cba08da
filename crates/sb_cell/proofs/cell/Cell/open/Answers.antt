use Rattle.std.proofs.Common.{rules, ◌≡◌, ◌/◌, ◌<◌, ◌∙◌, sym, ap, subst, set, true, nat_le, Some, Result, Ok, Err, inl, codes, lt-ltb}
use Rattle.std.specs.List.{slice_get}
use Rattle.std.proofs.lemmas.List.{set-get_or}
use Rattle.std.specs.Vec.{with_item}
use Rattle.sb_tenant.specs.declared.reply.Answer.{Answer}
use Rattle.sb_tenant.specs.Limits.{is_session, trail_limit}
use Rattle.sb_tenant.specs.State.{State, session_at, is_open}
use Rattle.sb_tenant.specs.Tenant.{LeavesLine, state}
use Rattle.sb_cell.specs.declared.StepError.{StepError}
use Rattle.sb_cell.specs.declared.StepError.TheVariants.{NotBegun}
use Rattle.sb_cell.specs.contracts.cell.Cell.{the_view}
use Rattle.sb_cell.specs.Hosting.{IsAt}
use Rattle.sb_cell.specs.Tenants.{Cell, AnswersEvent, hosts, states}
use Rattle.sb_cell.proofs.Hosted.{read_at}
use Rattle.sb_cell.proofs.Memory.{shown_to}
use Rattle.sb_cell.proofs.Cells.{IsCalled, after_hosted, event, open_left, stepped, unbegun, untouched}
use Rattle.sb_cell.proofs.cell.Cell.open.Goals.{in-Ok, in-Err}
use Rattle.sb_cell.proofs.cell.Cell.open.Goals as goal

-- the tenant that opens the session is in the state that the cell shows
is_shown : (c : goal.After-index_mut) → state c.index_mut.result.now ≡ states c.args.self.now c.args.tenant
is_shown c = shown_to (the_view c.self.inside) c.self.invariant c.args.self.now c.self.view_is c.args.tenant c.index_mut.result.now c.requires.hosted c.index_mut.ensures.value

pub open-requires-clause-closed : goal.open-requires-clause-closed
open-requires-clause-closed c = ap (λ (st : State). is_open (session_at st c.args.session)) (is_shown c) ∙ c.requires.closed

pub open-requires-clause-room : goal.open-requires-clause-room
open-requires-clause-room c = ap (λ (st : State). nat_le trail_limit st.steps) (is_shown c) ∙ c.requires.room

-- ---- the tenant that is there

hosted : (c : goal.Joined-open) → hosts (the_view c.self.inside) c.args.tenant ≡ true
hosted c = subst (λ (x : Cell). hosts x c.args.tenant ≡ true) (sym c.self.view_is) c.requires.hosted

at : (c : goal.Joined-open) → slice_get c.self.inside.tenants.items (c.args.tenant / c.self.inside.stride) ≡ Some c.index_mut.result.now
at c = read_at (the_view c.self.inside) c.args.tenant (hosted c) c.index_mut.result.now c.index_mut.ensures.value

was : (c : goal.Joined-open) → IsAt (the_view c.self.inside) (c.args.tenant / c.self.inside.stride) c.index_mut.result.now
was c = c.self.invariant.tenants (c.args.tenant / c.self.inside.stride) c.index_mut.result.now (at c)

is_one : (c : goal.Joined-open) → is_session c.args.session ≡ true
is_one c = let below : c.args.session < 8 = search rules in lt-ltb c.args.session 8 below

same_state : (c : goal.Joined-open) → state c.index_mut.result.now ≡ states c.args.self.now c.args.tenant
same_state c = shown_to (the_view c.self.inside) c.self.invariant c.args.self.now c.self.view_is c.args.tenant c.index_mut.result.now c.requires.hosted c.index_mut.ensures.value

left : (c : goal.Joined-open) → c.open.new.self ≡ c.index_mut.result.now → LeavesLine c.index_mut.result.now c.args.session (codes "open") c.open.new.self
left c same =
    open_left c.index_mut.result.now c.open.new.self c.args.session (ap (λ (st : State). is_open (session_at st c.args.session)) (same_state c) ∙ c.requires.closed)
    (ap (λ (st : State). nat_le trail_limit st.steps) (same_state c) ∙ c.requires.room) same

called : (c : goal.Joined-open) → IsCalled (the_view c.self.inside) c.args.tenant c.args.session 0 c.index_mut.result.now c.open.new.self (the_view c.self.inside).records (the_view c.self.inside).clock (the_view c.self.inside).index
called c =
    let v = the_view c.self.inside in
    let w = c.index_mut.result.now in
    elim c.match-open.branch [
      | in-Ok a ↦ stepped v c.args.tenant c.args.session w c.open.new.self v.records v.clock v.index (hosted c) (is_one c) (at c) a.in-Ok.ensures.legal (codes "open") a.in-Ok.answer a.in-Ok.ensures.ok.0
          (untouched w c.open.new.self c.args.session v.records v.clock v.index (a.in-Ok.ensures.in_step v.records v.clock v.index (was c).in_step))
      | in-Err a ↦ unbegun v c.args.tenant c.args.session w c.open.new.self v.records v.clock v.index (hosted c) (is_one c) (at c) a.in-Err.ensures.legal (codes "open") (left c a.in-Err.ensures.err)
          (untouched w c.open.new.self c.args.session v.records v.clock v.index (a.in-Err.ensures.in_step v.records v.clock v.index (was c).in_step))
    ]

pub invariant_of-self : goal.invariant_of-self
invariant_of-self c = after_hosted (the_view c.self.inside) c.self.invariant c.args.tenant c.args.session 0 c.index_mut.result.now c.open.new.self _ _ _ (called c)

-- the cell after it
abbrev after : goal.Joined-open → Cell
after c = the_view (record c.self.inside { tenants = with_item c.self.inside.tenants (c.args.tenant / c.self.inside.stride) c.open.new.self })

told : (c : goal.Joined-open) (given : Result Answer StepError) → AnswersEvent (the_view c.self.inside) c.args.tenant c.args.session (codes "open") given (after c) → AnswersEvent c.args.self.now c.args.tenant c.args.session (codes "open") given (after c)
told c given = subst (λ (x : Cell). AnswersEvent x c.args.tenant c.args.session (codes "open") given (after c)) c.self.view_is

pub returns-clause-step : goal.returns-clause-step
returns-clause-step c =
    let v = the_view c.self.inside in
    let w = c.index_mut.result.now in
    elim c.match-open.branch [
      | in-Ok a ↦ subst (λ (given : Result Answer StepError). AnswersEvent c.args.self.now c.args.tenant c.args.session (codes "open") given (after c)) (sym a.result-is)
          (told c (Ok a.in-Ok.answer) (event v c.self.invariant c.args.tenant c.args.session 0 w c.open.new.self _ _ _ (called c) (codes "open") (Ok a.in-Ok.answer) (inl a.in-Ok.ensures.ok.0.1)))
      | in-Err a ↦ subst (λ (given : Result Answer StepError). AnswersEvent c.args.self.now c.args.tenant c.args.session (codes "open") given (after c)) (sym a.result-is)
          (told c (Err NotBegun) (event v c.self.invariant c.args.tenant c.args.session 0 w c.open.new.self _ _ _ (called c) (codes "open") (Err NotBegun) (left c a.in-Err.ensures.err).1))
    ]

-- a step that isn't begun leaves the tenant
pub returns-clause-err : goal.returns-clause-err
returns-clause-err c =
    let place = c.args.tenant / c.self.inside.stride in
    elim c.match-open.branch [
      | in-Ok a ↦ rw a.result-is tt
      | in-Err a ↦
          let own = ap (set c.self.inside.tenants.items place) (a.in-Err.ensures.err ∙ c.index_mut.ensures.value) ∙ set-get_or c.self.inside.tenants.items place c.index_mut.result.now in
          rw a.result-is ((λ i. record (the_view c.self.inside) { tenants = own i }) ∙ c.self.view_is)
    ]
