use Rattle.std.proofs.Common.{subst}
use Rattle.std.specs.List.{All}
use Rattle.std.proofs.lemmas.List.{take_all}
use Rattle.std.proofs.lemmas.List.Elements.{All-more}
use Rattle.sb_replay.specs.Replay.{IsFullBy}
use Rattle.sb_replay.proofs.finishing.check_full.Goals as goal

pub loop-sheet-preserved : goal.loop-sheet-preserved
loop-sheet-preserved c =
    let full = IsFullBy c.args.trails.now in
    All-more full c.args.sheets.now c.loop-sheet.sheet-index c.sheet-item.result c.loop-sheet-test.true c.loop-sheet.invariant (subst full c.sheet-item.is c.if-denies.ensures)

pub returns-clause-ok : goal.returns-clause-ok
returns-clause-ok c = subst (All (IsFullBy c.args.trails.now)) (take_all c.loop-sheet.sheet-index c.args.sheets.now c.loop-sheet-test.false) c.loop-sheet.invariant
