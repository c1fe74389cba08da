use Rattle.std.proofs.Common.{rules, ◌≡◌, ◌/◌, ◌<◌, ◌∙◌, sym, ap, subst, set, true, ℕ, Result, Ok, Err, lt-ltb}
use Rattle.std.specs.List.{slice_get}
use Rattle.std.proofs.Common.{Some}
use Rattle.std.proofs.lemmas.List.{set-get_or}
use Rattle.std.specs.Vec.{with_item}
use Rattle.sb_tenant.specs.declared.reply.Answer.{Answer}
use Rattle.sb_tenant.specs.Limits.{is_session}
use Rattle.sb_cell.specs.declared.StepError.{StepError}
use Rattle.sb_cell.specs.declared.StepError.TheVariants.{NotBegun}
use Rattle.sb_cell.specs.contracts.cell.Cell.{the_view}
use Rattle.sb_cell.specs.Tenants.{Cell, AnswersEvent, hosts}
use Rattle.sb_cell.proofs.Hosted.{read_at}
use Rattle.sb_cell.proofs.Cells.{after_hosted, answered, event, unbegun}
use Rattle.sb_cell.proofs.cell.Cell.step_with.Goals.{in-Ok, in-Err}
use Rattle.sb_cell.proofs.cell.Cell.step_with.Goals as goal

pub step-made-requires-clause-in_step : goal.step-made-requires-clause-in_step
step-made-requires-clause-in_step c =
    let told : c.hosts.result ≡ true = search rules in
    let hosted = subst (λ (x : Cell). hosts x c.args.tenant ≡ true) (sym c.self.view_is) (sym c.hosts.ensures ∙ told) in
    (c.self.invariant.tenants (c.args.tenant / c.self.inside.stride) c.index_mut.result.now (read_at (the_view c.self.inside) c.args.tenant hosted c.index_mut.result.now c.index_mut.ensures.value)).in_step

-- ---- the tenant that is there

hosted : (c : goal.Joined-made) → hosts (the_view c.self.inside) c.args.tenant ≡ true
hosted c = let told : c.hosts.result ≡ true = search rules in subst (λ (x : Cell). hosts x c.args.tenant ≡ true) (sym c.self.view_is) (sym c.hosts.ensures ∙ told)

at : (c : goal.Joined-made) → slice_get c.self.inside.tenants.items (c.args.tenant / c.self.inside.stride) ≡ Some c.index_mut.result.now
at c = read_at (the_view c.self.inside) c.args.tenant (hosted c) c.index_mut.result.now c.index_mut.ensures.value

is_one : (c : goal.Joined-made) → is_session c.new-session.result ≡ true
is_one c = let below : c.args.session < 8 = search rules in ap is_session c.new-session.ensures ∙ lt-ltb c.args.session 8 below

pub invariant_of-self : goal.invariant_of-self
invariant_of-self c =
    let v = the_view c.self.inside in
    let s = c.new-session.result in
    let w = c.index_mut.result.now in
    elim c.match-made.branch [
      | in-Ok a ↦ after_hosted v c.self.invariant c.args.tenant s _ w c.step-made.new.self _ _ _
          (answered v c.args.tenant s w c.step-made.new.self _ _ _ (hosted c) (is_one c) (at c) a.in-Ok.ensures.legal c.args.line.now a.in-Ok.answer a.in-Ok.ensures.ok a.in-Ok.ensures.in_step)
      | in-Err a ↦ after_hosted v c.self.invariant c.args.tenant s _ w c.step-made.new.self _ _ _
          (unbegun v c.args.tenant s w c.step-made.new.self _ _ _ (hosted c) (is_one c) (at c) a.in-Err.ensures.legal c.args.line.now a.in-Err.ensures.err a.in-Err.ensures.in_step)
    ]

-- the cell after it
abbrev after : goal.Joined-made → Cell
after c = the_view (record c.self.inside { tenants = with_item c.self.inside.tenants (c.args.tenant / c.self.inside.stride) c.step-made.new.self; log = c.step-made.new.log; index = c.step-made.new.index })

-- the event, from the cell that was opened to the one that was called
told : (c : goal.Joined-made) (given : Result Answer StepError) → AnswersEvent (the_view c.self.inside) c.args.tenant c.new-session.result c.args.line.now given (after c) → AnswersEvent c.args.self.now c.args.tenant c.args.session c.args.line.now given (after c)
told c given is =
    subst (λ (x : Cell). AnswersEvent x c.args.tenant c.args.session c.args.line.now given (after c)) c.self.view_is
    (subst (λ (s : ℕ). AnswersEvent (the_view c.self.inside) c.args.tenant s c.args.line.now given (after c)) c.new-session.ensures is)

pub returns-clause-step : goal.returns-clause-step
returns-clause-step c =
    let v = the_view c.self.inside in
    let s = c.new-session.result in
    let w = c.index_mut.result.now in
    elim c.match-made.branch [
      | in-Ok a ↦ subst (λ (given : Result Answer StepError). AnswersEvent c.args.self.now c.args.tenant c.args.session c.args.line.now given (after c)) (sym a.result-is)
          (told c (Ok a.in-Ok.answer) (event v c.self.invariant c.args.tenant s _ w c.step-made.new.self _ _ _
          (answered v c.args.tenant s w c.step-made.new.self _ _ _ (hosted c) (is_one c) (at c) a.in-Ok.ensures.legal c.args.line.now a.in-Ok.answer a.in-Ok.ensures.ok a.in-Ok.ensures.in_step) c.args.line.now (Ok a.in-Ok.answer) a.in-Ok.ensures.ok.1))
      | in-Err a ↦ subst (λ (given : Result Answer StepError). AnswersEvent c.args.self.now c.args.tenant c.args.session c.args.line.now given (after c)) (sym a.result-is)
          (told c (Err NotBegun) (event v c.self.invariant c.args.tenant s _ w c.step-made.new.self _ _ _
          (unbegun v c.args.tenant s w c.step-made.new.self _ _ _ (hosted c) (is_one c) (at c) a.in-Err.ensures.legal c.args.line.now a.in-Err.ensures.err a.in-Err.ensures.in_step) c.args.line.now (Err NotBegun) a.in-Err.ensures.err.1))
    ]

-- a step that isn't begun leaves the tenant, the log and the index
pub returns-clause-err : goal.returns-clause-err
returns-clause-err c =
    let place = c.args.tenant / c.self.inside.stride in
    elim c.match-made.branch [
      | in-Ok a ↦ rw a.result-is tt
      | in-Err a ↦
          let own = ap (set c.self.inside.tenants.items place) (a.in-Err.ensures.err.0 ∙ c.index_mut.ensures.value) ∙ set-get_or c.self.inside.tenants.items place c.index_mut.result.now in
          rw a.result-is
          ((λ i. record (the_view (record c.self.inside { log = a.in-Err.ensures.unused.0 i; index = a.in-Err.ensures.unused.1 i })) { tenants = own i }) ∙ c.self.view_is)
    ]
