use Rattle.std.proofs.Common.{◌≡◌, ◌≤◌, ◌-◌, List, length, vec_len, vec_capacity, sym, ap, ◌∙◌, subst, arith, rules}
use Rattle.std.proofs.lemmas.Grind.{common_steps}
use Rattle.crossbeam_deque.specs.Handles.{worker_deque, worker_view}
use Rattle.atomic_blocks.specs.Lent.{RowsId}
use Rattle.std.specs.Global.{Global}
use Rattle.sb_workers.specs.declared.rule.Known.{Known}
use Rattle.sb_workers.specs.declared.work.Placed.{Placed}
use Rattle.sb_workers.specs.Results.{IsDone}
use Rattle.sb_workers.specs.Rule.{tasks_from}
use Rattle.sb_workers.specs.Seats.{AreHelpers}
use Rattle.sb_workers.proofs.Crews.{none_back}
use Rattle.sb_workers.proofs.Steps.{begins}
use Rattle.sb_workers.proofs.Tasks.{length-tasks}
use Rattle.sb_workers.proofs.Laying.{answers, covers}
use Rattle.sb_workers.proofs.Zips.{zip_nil}
use Rattle.sb_workers.proofs.crew.run.Goals as goal

pub fifo_as-requires : goal.fifo_as-requires
fifo_as-requires g c = begins

pub do_all-done-requires-clause-crew : goal.do_all-done-requires-clause-crew
do_all-done-requires-clause-crew g c =
    let does = g.W.Work.does in
    let deque = worker_deque c.fill-owner.result in
    let hired = c.in-Ok-hire.ensures in
    let filled = c.fill-owner.ensures in
    let jobs : vec_len c.in-Ok-hire.helpers ≡ c.args.workers - 1 = hired.helpers.1 in
    let none : vec_len c.in-Ok-hire.back ≡ 0 = (let e = ap length hired.back.0 in grind (arith, common_steps)) in
    let places = hired.back.1 in
    let parts = ap (λ (h : Known _). h.parts) filled.view ∙ ap (λ (h : Known _). h.parts) hired.owner.0 in
    let few = c.requires.1 in
    let most : length (tasks_from 0 c.args.jobs.items) ≤ vec_capacity c.in-Ok-with_capacity.done = (let k = length-tasks 0 c.args.jobs.items in let m = c.in-Ok-with_capacity.ensures.capacity in let n = c.len-count.ensures in grind (arith, common_steps)) in
    λ κs bounds. (
      (
        (ap (λ (h : Known _). h.owns) filled.view, omega (arith, parts, few), search rules),
        zip_nil (IsDone does) (worker_view c.fill-owner.result).given c.in-Ok-with_capacity.done.items (ap (λ (h : Known _). h.given) filled.view) c.in-Ok-with_capacity.ensures.items,
        subst (λ (l : List (Placed _)). length l ≤ vec_capacity c.in-Ok-with_capacity.done) (sym (ap (λ (h : Known _). h.pushed) filled.view)) most,
      ),
      subst (λ (d : RowsId × Global). AreHelpers does d c.in-Ok-hire.helpers.items) (sym (filled.same.0 ∙ hired.owner.1.0)) hired.helpers.0,
      none_back does deque c.in-Ok-hire.back.items hired.back.0,
      omega (arith, none, jobs, places),
    )

pub list-requires-clause-covered : goal.list-requires-clause-covered
list-requires-clause-covered g c =
    covers g.W.Work.does c.args.jobs.items (worker_view c.fill-owner.result).pushed c.do_all-done.result.items (vec_len c.in-Ok-new.rack.slots) (ap (λ (h : Known _). h.pushed) c.fill-owner.ensures.view)
    (c.in-Ok-new.ensures.0 ∙ (c.len-count.ensures ∙ c.args.jobs.ok.0)) c.do_all-done.ensures

pub returns-clause-done : goal.returns-clause-done
returns-clause-done g c =
    answers g.W.Work.does c.args.jobs.items (worker_view c.fill-owner.result).pushed c.do_all-done.result.items (vec_len c.in-Ok-new.rack.slots) (ap (λ (h : Known _). h.pushed) c.fill-owner.ensures.view)
    (c.in-Ok-new.ensures.0 ∙ (c.len-count.ensures ∙ c.args.jobs.ok.0)) c.do_all-done.ensures c.list.result.items c.list.ensures.len c.list.ensures.lists
