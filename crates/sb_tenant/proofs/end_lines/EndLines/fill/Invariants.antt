use Rattle.std.proofs.Common.{◌≡◌, vec_len}
use Rattle.sb_tenant.specs.EndLines.{AreEnds}
use Rattle.sb_tenant.proofs.end_lines.EndLines.fill.Given as goal

abbrev pub invariant-loop-made : goal.invariant-loop-made
invariant-loop-made l = AreEnds l.self-inside.lines.items × (vec_len l.self-inside.lines ≡ l._made)
