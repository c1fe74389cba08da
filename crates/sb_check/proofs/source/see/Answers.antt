use Rattle.std.proofs.Common.{arith}
use Rattle.sb_check.specs.Lent.{source_lent}
use Rattle.sb_check.proofs.SourceWalk.{source-step}
use Rattle.sb_check.proofs.source.see.Goals as goal

pub loop-reference-preserved : goal.loop-reference-preserved
loop-reference-preserved g c =
    rw c.in_ok-push.ensures
    (source-step (g.S.Schema.names c.args.schema.now) _ c.args.references.now c.loop-reference.reference-index c.reference-item.result c.loop-reference.seen.1 c.loop-reference.seen.0
    (source_lent c.in-Ok.lent) c.visible_name-name.result (omega arith) c.reference-item.is c.visible_name-name.ensures c.in-Ok.ensures (rw c.visible.ensures at c.if-is_taken.ensures) c.loop-reference.invariant)
