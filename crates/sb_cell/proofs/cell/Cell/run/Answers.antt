use Rattle.std.proofs.Common.{rules, ◌≡◌, ◌+◌, ◌∙◌, ◌++◌, ◌∷◌, [], List, ℕ, Result, sym, ap, subst, take}
use Rattle.std.proofs.lemmas.List.{take_all, take_more}
use Rattle.sb_tenant.specs.declared.reply.Answer.{Answer}
use Rattle.sb_cell.specs.declared.Event.{Event}
use Rattle.sb_cell.specs.declared.StepError.{StepError}
use Rattle.sb_cell.specs.contracts.cell.Cell.{the_view}
use Rattle.sb_cell.specs.Events.{AreEvents}
use Rattle.sb_cell.specs.Headline.{RunsInTurn}
use Rattle.sb_cell.specs.Tenants.{AnswersEvent, HasLegalTrails, hosts, run_of, trails}
use Rattle.sb_cell.proofs.Running.{begins_legal, more, same_more}
use Rattle.sb_cell.proofs.cell.Cell.run.Goals as goal

pub loop-event-preserved : goal.loop-event-preserved
loop-event-preserved c =
    let first = c.args.self.now in
    let so_far = c.loop-event.invariant in
    let e = c.event-item.result in
    let one = subst (λ (l : List ℕ). AnswersEvent c.loop-event.self e.tenant e.session l c.step-answer.result c.step-answer.new.self) c.as_slice.ensures c.step-answer.ensures.step in
    let longer : take (c.loop-event.event-index + 1) c.args.events.now ≡ take c.loop-event.event-index c.args.events.now ++ e ∷ [] =
    take_more c.args.events.now c.loop-event.event-index e c.loop-event-test.true ∙ ap (λ (x : Event). take c.loop-event.event-index c.args.events.now ++ x ∷ []) (sym c.event-item.is) in (
      subst (λ (es : List Event). AreEvents first.bound (hosts first) (trails first) es c.push_reserved.new.self.items (trails c.step-answer.new.self)) (sym longer)
          (subst (λ (answers : List (Result Answer StepError)). AreEvents first.bound (hosts first) (trails first) (take c.loop-event.event-index c.args.events.now ++ e ∷ []) answers (trails c.step-answer.new.self)) (sym c.push_reserved.ensures.items)
          (more first c.loop-event.self c.step-answer.new.self (take c.loop-event.event-index c.args.events.now) c.loop-event.list.items e c.step-answer.result so_far.1 so_far.0 one)),
      same_more first c.loop-event.self c.step-answer.new.self e c.step-answer.result so_far.1 one,
      search rules,
      search rules,
    )

-- all events have their answers
in_turn : (c : goal.After-loop-event) → RunsInTurn c.args.self.now.bound (run_of c.args.self.now c.args.events.now c.loop-event.list.items c.loop-event.self)
in_turn c =
    c.events_run_in_turn.ensures c.args.self.now.bound (run_of c.args.self.now c.args.events.now c.loop-event.list.items c.loop-event.self)
    (subst (λ (es : List Event). AreEvents c.args.self.now.bound (hosts c.args.self.now) (trails c.args.self.now) es c.loop-event.list.items (trails c.loop-event.self)) (take_all c.loop-event.event-index c.args.events.now c.loop-event-test.false) c.loop-event.invariant.0)

pub returns-clause-in_turn : goal.returns-clause-in_turn
returns-clause-in_turn c = in_turn c

pub returns-clause-alone : goal.returns-clause-alone
returns-clause-alone c =
    c.turns_run_alone.ensures c.args.self.now.bound (run_of c.args.self.now c.args.events.now c.loop-event.list.items c.loop-event.self)
    (subst HasLegalTrails c.self.view_is (begins_legal (the_view c.self.inside) c.self.invariant)) (in_turn c)
