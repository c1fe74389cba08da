use Rattle.std.proofs.Common.{◌≡◌, [], drop, map}
use Rattle.sb_syntax.specs.Views.{assignment}
use Rattle.sb_check.specs.Statements.{assignments_walk}
use Rattle.sb_check.proofs.StatementWalk.{after, places_of}
use Rattle.sb_check.proofs.statement.each_assignment.Given as goal

-- what was assigned stands before the assignments that are left
abbrev pub invariant-loop-assignment : goal.invariant-loop-assignment
invariant-loop-assignment g l =
    let walk = assignments_walk (g.S.Schema.names l.schema) l.table.name l.table.columns.now in
    walk [] (map assignment l.list) ≡ after l.done (walk (places_of l.done) (drop l.assignment-index (map assignment l.list)))
