use Rattle.std.proofs.Common.{◌<◌, ◌≤◌, length, vec_capacity, sym, ap, ◌∙◌, subst, arith}
use Rattle.std.proofs.lemmas.Grind.{common_steps}
use Rattle.crossbeam_deque.specs.Handles.{worker_view}
use Rattle.sb_workers.specs.declared.rule.Known.{Known}
use Rattle.sb_workers.specs.Results.{IsDone}
use Rattle.sb_workers.proofs.Steps.{takes, finds, room}
use Rattle.sb_workers.proofs.Zips.{zip_grows, zip_length, zip_same}
use Rattle.sb_workers.proofs.turns.drain.Goals as goal

pub pop_as-requires-clause-fifo : goal.pop_as-requires-clause-fifo
pop_as-requires-clause-fifo g c = λ _. let i = c.loop.invariant in takes _ _ (subst (λ n. 0 < n) (sym i.same.2) i.owner.1)

pub pop_as-requires-clause-empty : goal.pop_as-requires-clause-empty
pop_as-requires-clause-empty g c = finds _ _

pub push_reserved-requires : goal.push_reserved-requires
push_reserved-requires g c =
    let i = c.loop.invariant in
    let r = c.in-Some-pop_as.ensures.rule in
    let v = worker_view c.loop.owner in
    let most : length v.pushed ≤ vec_capacity c.loop.done = subst (λ n. n ≤ vec_capacity c.loop.done) (sym (ap length i.same.4)) i.room in
    let as_many = zip_length (IsDone g.W.Work.does) v.given c.loop.done.items i.done in
    let free : length c.loop.done.items < vec_capacity c.loop.done = room v (worker_view c.pop_as.new.self) c.in-Some-pop_as.task (length c.loop.done.items) (vec_capacity c.loop.done) r.0 r.1 (i.same.3 ∙ i.owner.0) as_many most in
    grind (arith, common_steps)

pub loop-preserved : goal.loop-preserved
loop-preserved g c =
    let i = c.loop.invariant in
    let r = c.in-Some-pop_as.ensures.rule in
    let s = c.in-Some-pop_as.ensures.same in
    let v = worker_view c.loop.owner in
    record {
      same = (
        s.0.0 ∙ i.same.0,
        s.0.1 ∙ i.same.1,
        ap (λ (h : Known _). h.parts) r.0 ∙ i.same.2,
        ap (λ (h : Known _). h.owns) r.0 ∙ i.same.3,
        ap (λ (h : Known _). h.pushed) r.0 ∙ i.same.4,
      );
      owner = i.owner;
      done = zip_grows (IsDone g.W.Work.does) v.given c.in-Some-pop_as.task (worker_view c.pop_as.new.self).given c.loop.done.items c.done_at.result c.push_reserved.new.self.items (ap (λ (h : Known _). h.given) r.0) c.push_reserved.ensures.items i.done c.done_at.ensures;
      room = subst (λ n. length (worker_view c.args.caller.owner).pushed ≤ n) (sym c.push_reserved.ensures.capacity) i.room;
    }

pub returns-in-None-pop_as-clause-caller : goal.returns-in-None-pop_as-clause-caller
returns-in-None-pop_as-clause-caller g c =
    let i = c.loop.invariant in
    let e = c.in-None-pop_as.ensures.rule.0 in (
      (
        ap (λ (h : Known _). h.owns) e ∙ (i.same.3 ∙ i.owner.0),
        subst (λ n. 0 < n) (sym (ap (λ (h : Known _). h.parts) e ∙ i.same.2)) i.owner.1,
        c.in-None-pop_as.ensures.same.0.1 ∙ (i.same.1 ∙ i.owner.2),
      ),
      zip_same (IsDone g.W.Work.does) (worker_view c.loop.owner).given (worker_view c.pop_as.new.self).given c.loop.done.items (ap (λ (h : Known _). h.given) e) i.done,
      subst (λ l. length l ≤ vec_capacity c.loop.done) (sym (ap (λ (h : Known _). h.pushed) e ∙ i.same.4)) i.room,
    )
