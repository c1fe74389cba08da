use Rattle.std.proofs.Common.{◌≡◌, ℕ, ◌<◌, ◌+◌, ◌*◌, List, [], Option, sym, ap, ◌∙◌, subst, arith}
use Rattle.sb_desk.specs.Kept.{AreDealt}
use Rattle.sb_desk.specs.Seats.{IsSeat, SessionSeat, first_of, rest_of}
use Rattle.sb_host.specs.Opening.{left_in}
use Rattle.sb_host.proofs.Dealing.{dealt-more, first_left, rest_left}
use Rattle.sb_host.proofs.opening.deal.Goals as goal

pub loop-at-preserved : goal.loop-at-preserved
loop-at-preserved c =
    let i = c.loop-at.invariant in
    let z = c.args.table.now.table_id in
    let cell = c.args.cell in
    let n = c.loop-at._at in
    let below : n < 2048 = (let few = c.requires.few.0 in let more = c.loop-at-test.true in omega (arith, few, more)) in
    let e = c.split.ensures in
    let left : (rest_of c.loop-at.block.me.0, c.loop-at.block.me.1) ≡ (left_in cell (n + 1), []) = ap (λ (m : List ℕ × List (ℕ × Unit {0})). (rest_of m.0, m.1)) i.1 ∙ ap (λ (l : List ℕ). (l, [])) (rest_left cell n below) in
    let mine : IsSeat z (2048 * cell + n) c.split.result = (e.2 ∙ i.0, e.3 ∙ ap (λ (m : List ℕ × List (ℕ × Unit {0})). (first_of m.0, [])) i.1 ∙ ap (λ (l : List ℕ). (l, [])) (first_left cell n below)) in
    (e.0 ∙ i.0, e.1 ∙ left, subst (λ (l : List (Option SessionSeat)). AreDealt z cell (n + 1) l) (sym c.in_ok-push.ensures.items) (dealt-more z cell n c.loop-at.seats.items c.split.result i.2 mine))
