use Rattle.std.proofs.Common.{◌≡◌, drop, fold}
use Rattle.sb_check.proofs.visit.visit_sources.Given as goal

-- the sources that are left are shown next
abbrev pub invariant-loop-source : goal.invariant-loop-source
invariant-loop-source g l = fold g.V.SourceVisitor.after l.fn.visitor l.sources ≡ fold g.V.SourceVisitor.after l.visitor (drop l.source-index l.sources)
