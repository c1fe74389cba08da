use Rattle.std.proofs.Common.{ℕ, ◌≤◌, length, take, Vec, subst, arith}
use Rattle.std.specs.Global.{Global}
use Rattle.std.specs.List.{All}
use Rattle.std.proofs.lemmas.List.{take_all}
use Rattle.std.proofs.lemmas.List.Elements.{All-more, All-weaker}
use Rattle.sb_replay.proofs.closing.longest.Goals as goal

abbrev Row : Type 0
Row = Vec (Vec ℕ Global) Global

abbrev Within : ℕ → Row → Type 0
Within most row = length row.items ≤ most

pub loop-row-preserved : goal.loop-row-preserved
loop-row-preserved c =
    let at = c.loop-row in
    let rows = c.args.rows.now in
    let row = c.row-item.result in
    let most = c.larger-most.result in
    let larger = c.larger-most.ensures in
    let long : length row.items ≤ most = (let len = c.len.ensures in let is = row.ok.0 in omega arith) in
    All-more (Within most) rows at.row-index row c.loop-row-test.true
    (All-weaker (Within at.most) (Within most) (λ r within. omega arith) (take at.row-index rows) at.invariant)
    (subst (Within most) c.row-item.is long)

pub returns : goal.returns
returns c = subst (All (Within c.loop-row.most)) (take_all c.loop-row.row-index c.args.rows.now c.loop-row-test.false) c.loop-row.invariant
