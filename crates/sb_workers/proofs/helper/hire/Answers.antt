use Rattle.std.proofs.Common.{◌≡◌, ℕ, ◌≤◌, ◌+◌, ◌-◌, [], true, sym, ap, ◌∙◌, subst, arith}
use Rattle.crossbeam_deque.specs.Handles.{worker_deque, view}
use Rattle.sb_workers.specs.declared.rule.Known.{Known}
use Rattle.sb_workers.specs.declared.helper.Helper.{Helper}
use Rattle.sb_workers.specs.Rule.{known}
use Rattle.sb_workers.specs.Results.{AreDone, IsDone}
use Rattle.sb_workers.specs.Seats.{IsHelper}
use Rattle.sb_workers.proofs.Steps.{forks}
use Rattle.sb_workers.proofs.Zips.{zip_nil}
use Rattle.sb_workers.proofs.Crews.{helpers_grow}
use Rattle.sb_workers.proofs.helper.hire.Goals as goal

pub another-seat-requires : goal.another-seat-requires
another-seat-requires g c =
    let p = ap (λ (h : Known _). h.parts) c.loop-hired.invariant.view in
    let few = c.requires.few in
    let below = c.loop-hired-test.true in
    forks _ _ (omega (arith, p, few, below))

pub loop-hired-preserved : goal.loop-hired-preserved
loop-hired-preserved g c =
    let i = c.loop-hired.invariant in
    let a = c.another-seat.ensures in
    let s = a.same in
    let does = g.W.Work.does in
    let deque = worker_deque c.args.owner in
    let n = c.loop-hired._hired in
    let done = c.in_ok-done.done in
    let h : Helper g.row.J.Denot g.row.D.Denot = record { alloc = c.args.alloc; seat = c.another-seat.result; done = done } in
    let less : 1024 - n - 1 ≡ 1024 - (n + 1) = omega arith in
    let none : AreDone does (view c.another-seat.result).given done.items = zip_nil (IsDone does) (view c.another-seat.result).given done.items (ap (λ (k : Known _). k.given) a.rule.1) c.in_ok-done.ensures.items in
    let one : IsHelper does deque h = (((s.2.0 ∙ ap (λ x. x.0) i.deque, s.2.1 ∙ ap (λ x. x.1) i.deque, s.2.2, s.2.3), ap (λ (k : Known _). k.parts) a.rule.1, ap (λ (k : Known _). k.owns) a.rule.1), none) in
    record {
      view = a.rule.0 ∙ (ap (λ (k : Known _). known (k.parts - 1) k.owns k.pushed k.given) i.view ∙ ap (λ (m : ℕ). known m true [] []) less);
      deque = s.0.0 ∙ i.deque;
      flavor = s.0.1 ∙ i.flavor;
      index = s.1 ∙ i.index;
      capacity = omega (arith, s.0.3, i.capacity);
      helpers = helpers_grow does deque c.loop-hired.helpers.items h c.push_reserved.new.self.items c.push_reserved.ensures.items i.helpers one;
      len = c.push_reserved.ensures.len ∙ ap (λ m. m + 1) i.len;
      room = subst (λ m. c.args.count ≤ m) (sym c.push_reserved.ensures.capacity) i.room;
    }
