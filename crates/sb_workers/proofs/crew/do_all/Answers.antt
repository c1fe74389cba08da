use Rattle.std.proofs.Common.{◌≡◌, length, vec_len, sym, ap, ◌∙◌, subst, arith}
use Rattle.std.proofs.lemmas.Grind.{common_steps}
use Rattle.crossbeam_deque.specs.Handles.{worker_view}
use Rattle.atomic_blocks.specs.Lent.{RowsId}
use Rattle.std.specs.Global.{Global}
use Rattle.sb_workers.specs.Rule.{AreOf, times}
use Rattle.sb_workers.specs.Seats.{AreHelpers, IsCrew}
use Rattle.sb_workers.proofs.crew.do_all.Goals as goal

pub crew-caller-requires-after_bounds : goal.crew-caller-requires-after_bounds
crew-caller-requires-after_bounds g c = λ κs bounds. subst (λ (d : RowsId × Global). IsCrew g.W.Work.does d c.args.caller c.args.helpers c.args.back) (sym c.requires.thief) c.requires.crew

pub take_in-caller-requires-clause-helpers : goal.take_in-caller-requires-clause-helpers
take_in-caller-requires-clause-helpers g c =
    subst (λ (d : RowsId × Global). AreHelpers g.W.Work.does d c.crew-caller.result.1.items) (c.requires.thief ∙ sym c.crew-caller.ensures.0.0) c.crew-caller.ensures.2

pub returns : goal.returns
returns g c =
    let d = c.drain-done.ensures in
    let t = c.take_in-caller.ensures in
    let w = c.crew-caller.ensures in
    let first = c.requires.parts in
    let none : length c.args.back.items ≡ 0 = ap length c.requires.back in
    let all_back : vec_len c.crew-caller.result.1 ≡ vec_len c.args.helpers = (let many = w.3 in grind (arith, common_steps)) in
    let a = t.parts.2 in
    let b = w.0.2 in
    let e = d.same.2 in
    let parts : (worker_view c.drain-done.result.owner).parts ≡ 1024 = omega (arith, a, b, e, first, all_back) in
    let pushed : (worker_view c.drain-done.result.owner).pushed ≡ (worker_view c.args.caller.owner).pushed = d.same.4 ∙ (t.parts.4 ∙ w.0.4) in
    let all = d.all parts (d.same.3 ∙ (t.parts.3 ∙ (w.0.3 ∙ c.requires.crew.0.0.0))) in
    ((worker_view c.drain-done.result.owner).given, subst (λ l. AreOf l (worker_view c.drain-done.result.owner).given) pushed all.0, (λ x. all.1 x ∙ ap (times x) pushed), d.caller.1)
