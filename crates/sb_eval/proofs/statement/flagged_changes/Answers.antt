use Rattle.std.proofs.Common.{map, rules, subst, sym}
use Rattle.sb_plan.specs.RowFlags.{Tell}
use Rattle.sb_plan.specs.Seen.{rows_in}
use Rattle.sb_eval.specs.TableWalk.{IsRowTold}
use Rattle.sb_eval.proofs.Knowing.{effect_right}
use Rattle.sb_eval.proofs.statement.flagged_changes.Goals as goal

pub loop-number-init : goal.loop-number-init
loop-number-init g c = record {
  operands = effect_right (rows_in (g.S.Sources.seen c.args.walk.now.sources.now)) c.args.walk.now.effect.now;
  changes = search rules;
  flags = search rules;
}
