use Rattle.std.proofs.Common.{◌++◌, ◌∷◌, [], List, true, length, length-append, sym, ap, ◌∙◌, arith}
use Rattle.sb_workers.specs.declared.rule.Known.{Known}
use Rattle.sb_workers.specs.declared.work.Placed.{Placed}
use Rattle.crossbeam_deque.specs.Handles.{worker_view}
use Rattle.sb_workers.specs.Rule.{known}
use Rattle.sb_workers.proofs.Steps.{pushes}
use Rattle.sb_workers.proofs.Tasks.{length-tasks, tasks-snoc}
use Rattle.sb_workers.proofs.crew.fill.Goals as goal

pub push_as-requires-clause-pushes : goal.push_as-requires-clause-pushes
push_as-requires-clause-pushes g c =
    let i = c.loop-job.invariant in
    pushes _ _ _ (ap (λ (h : Known _). h.owns) i.2) (i.3 ∙ (sym (length-tasks 0 c.loop-job.yielded) ∙ sym (ap (λ (h : Known _). length h.pushed) i.2)))

pub loop-job-preserved : goal.loop-job-preserved
loop-job-preserved g c =
    let i = c.loop-job.invariant in
    let r = c.in-Ok.ensures.rule in
    let s = c.in-Ok.ensures.same in
    let ys = c.loop-job.yielded in
    let x : Placed g.row.J.Denot = record { place = c.loop-job.place; item = c.in-Some.job } in
    let n = length-append ys (c.in-Some.job ∷ []) in (
      s.0 ∙ i.0,
      s.1 ∙ i.1,
      r.0 ∙ (ap (λ (h : Known _). known h.parts h.owns (h.pushed ++ x ∷ []) h.given) i.2 ∙ ap (λ (l : List (Placed _)). known (worker_view c.args.owner).parts true l []) (sym (tasks-snoc 0 c.loop-job.place ys c.in-Some.job (omega (arith, i.3))))),
      omega (arith, n, i.3),
      omega (arith, n, i.4, r.1),
      omega (arith, i.5, s.3),
    )
