use Rattle.std.proofs.Common.{rules, Vec, Global}
use Rattle.sb_value.specs.declared.change.Change.{Change}
use Rattle.sb_eval.specs.Effect.{change_of}
use Rattle.sb_plan.specs.Meaning.{holds}
use Rattle.sb_plan.specs.Seen.{rows_in}
use Rattle.sb_eval.specs.Statement as spec
use Rattle.sb_eval.proofs.Changing.{row-step}
use Rattle.sb_eval.proofs.Knowing.{effect_right}
use Rattle.sb_eval.proofs.Results.{gives-err}
use Rattle.sb_eval.proofs.statement.changes_where.Goals as goal

pub loop-number-init : goal.loop-number-init
loop-number-init g c = record {
  operands = effect_right (rows_in (g.S.Sources.seen c.args.walk.now.sources.now)) c.args.walk.now.effect.now;
  changes = search rules;
}

pub returns-in-Err : goal.returns-in-Err
returns-in-Err g c =
    let seen = g.S.Sources.seen c.args.walk.now.sources.now in
    let step = row-step (λ r. holds (rows_in seen) c.args.walk.now.filter.now (spec.scope_of r)) (change_of seen c.args.walk.now.table c.args.walk.now.effect.now) _ c.loop-number.changes.items c.loop-number.number-iterator c.next.new.self c.in-Some.number c.in-Some.row.now
    c.values.result.now c.in-Some.ensures.steps c.values.ensures c.loop-number.invariant.changes in
    gives-err {X = Vec Change Global} (λ changes. changes.items) _ _ _ c.change_row.new.changes.items c.in-Err.stop step c.in-Err.ensures.changes
