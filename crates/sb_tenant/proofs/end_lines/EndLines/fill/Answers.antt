use Rattle.std.proofs.Common.{sym, subst, rules}
use Rattle.sb_tenant.specs.EndLines.{AreEnds}
use Rattle.sb_tenant.proofs.EndLines.{ends-one_more}
use Rattle.sb_tenant.proofs.end_lines.EndLines.fill.Goals as goal

pub loop-made-preserved : goal.loop-made-preserved
loop-made-preserved c = (
  subst AreEnds (sym c.in_ok-push.ensures.items) (ends-one_more c.loop-made.self-inside.lines.items c.in_ok-line.line c.loop-made.invariant.0 c.in_ok-line.ensures),
  search rules,
)
