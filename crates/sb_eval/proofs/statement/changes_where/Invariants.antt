use Rattle.std.proofs.Common.{◌≡◌}
use Rattle.sb_eval.specs.Effect.{EffectRight}
use Rattle.sb_plan.specs.Seen.{rows_in}
use Rattle.sb_eval.specs.TableWalk.{changes_of_rows}
use Rattle.sb_eval.proofs.Changing.{made_behind}
use Rattle.sb_eval.proofs.statement.changes_where.Given as goal

-- what is known of the operands is right, and the changes so far stand before those of the rows that are left
abbrev pub invariant-loop-number : goal.invariant-loop-number
invariant-loop-number g l = record {
  operands : EffectRight (rows_in (g.S.Sources.seen l.walk.sources.now)) l.walk.effect.now l.operands;
  changes : changes_of_rows g.S.Sources.seen l.walk ≡ made_behind g.S.Sources.seen l.walk l.changes.items l.number-iterator;
}
