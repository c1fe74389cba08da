use Rattle.std.proofs.Common.{ap, ◌∙◌, arith}
use Rattle.crossbeam_deque.specs.Handles.{view}
use Rattle.sb_workers.specs.declared.rule.Known.{Known}
use Rattle.sb_workers.specs.Results.{IsDone}
use Rattle.sb_workers.proofs.Steps.{takes}
use Rattle.sb_workers.proofs.Zips.{zip_grows, zip_same}
use Rattle.sb_workers.proofs.turns.steal.Goals as goal

pub steal_as-requires-clause-takes : goal.steal_as-requires-clause-takes
steal_as-requires-clause-takes g c = let i = c.loop.invariant.0.1 in takes _ _ (omega (arith, i))

pub loop-preserved-in-Success : goal.loop-preserved-in-Success
loop-preserved-in-Success g c =
    let i = c.loop.invariant in
    let r = c.in-Success.ensures.rule in
    let s = c.in-Success.ensures.same in
    let v = view c.loop.seat in (
      (
        (s.0 ∙ i.0.0.0, s.1 ∙ i.0.0.1, s.3, s.4),
        ap (λ (h : Known _). h.parts) r.0 ∙ i.0.1,
        ap (λ (h : Known _). h.owns) r.0 ∙ i.0.2,
      ),
      zip_grows (IsDone g.W.Work.does) v.given c.in-Success.task (view c.steal_as.new.pass).given c.loop.done.items c.done_at.result c.push_reserved.new.self.items (ap (λ (h : Known _). h.given) r.0) c.push_reserved.ensures.items i.1 c.done_at.ensures,
    )

pub returns-in-Empty-clause-done : goal.returns-in-Empty-clause-done
returns-in-Empty-clause-done g c = zip_same (IsDone g.W.Work.does) (view c.loop.seat).given (view c.steal_as.new.pass).given c.loop.done.items (ap (λ (h : Known _). h.given) c.in-Empty.ensures.rule.0) c.loop.invariant.1

pub loop-preserved : goal.loop-preserved
loop-preserved g c =
    let i = c.loop.invariant in
    let s = c.in-Retry.ensures.same in
    let e = c.in-Retry.ensures.rule.0 in (
      (
        (s.0 ∙ i.0.0.0, s.1 ∙ i.0.0.1, s.3, s.4),
        ap (λ (h : Known _). h.parts) e ∙ i.0.1,
        ap (λ (h : Known _). h.owns) e ∙ i.0.2,
      ),
      zip_same (IsDone g.W.Work.does) (view c.loop.seat).given (view c.steal_as.new.pass).given c.loop.done.items (ap (λ (h : Known _). h.given) e) i.1,
    )
