use Rattle.std.proofs.Common.{◌≡◌, ◌+◌, vec_len, sym, ◌∙◌, subst, arith}
use Rattle.crossbeam_deque.specs.Handles.{worker_deque}
use Rattle.atomic_blocks.specs.Lent.{RowsId}
use Rattle.std.specs.Global.{Global}
use Rattle.sb_workers.specs.Seats.{IsHelper}
use Rattle.sb_workers.proofs.Crews.{helpers-pop}
use Rattle.sb_workers.proofs.helper.take_in.Goals as goal

pub take_one-caller-requires-clause-helper : goal.take_one-caller-requires-clause-helper
take_one-caller-requires-clause-helper g c =
    let i = c.loop-helper.invariant in
    let p = helpers-pop g.W.Work.does (worker_deque c.args.caller.owner) c.loop-helper.helpers.items c.pop.new.self.items c.in-Some.helper c.in-Some.ensures.items i.6 in
    subst (λ (d : RowsId × Global). IsHelper g.W.Work.does d c.in-Some.helper) (sym i.0) p.1

pub loop-helper-preserved : goal.loop-helper-preserved
loop-helper-preserved g c =
    let i = c.loop-helper.invariant in
    let t = c.take_one-caller.ensures in
    let p = helpers-pop g.W.Work.does (worker_deque c.args.caller.owner) c.loop-helper.helpers.items c.pop.new.self.items c.in-Some.helper c.in-Some.ensures.items i.6 in
    let less : vec_len c.pop.new.self + 1 ≡ vec_len c.loop-helper.helpers = c.in-Some.ensures.cases in
    (t.parts.0 ∙ i.0, t.parts.1 ∙ i.1, omega (arith, t.parts.2, less, i.2), t.parts.3 ∙ i.3, t.parts.4 ∙ i.4, t.caller, p.0)
