use Rattle.std.proofs.Common.{◌≡◌, drop, fold}
use Rattle.sb_check.specs.Mentions.{assignment_sources}
use Rattle.sb_check.proofs.visit.visit_assignments.Given as goal

-- the assignments that are left are shown next
abbrev pub invariant-loop-assignment : goal.invariant-loop-assignment
invariant-loop-assignment g l = fold g.V.SourceVisitor.after l.fn.visitor (assignment_sources l.assignments) ≡ fold g.V.SourceVisitor.after l.visitor (assignment_sources (drop l.assignment-index l.assignments))
