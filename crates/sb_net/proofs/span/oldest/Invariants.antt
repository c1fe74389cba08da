use Rattle.std.proofs.Common.{◌≡◌, List, ◌++◌, Some, length}
use Rattle.sb_rawlog.specs.Records.{Record}
use Rattle.sb_rawlog.specs.Steps.{tuple_todo}
use Rattle.sb_net.proofs.span.oldest.Given as goal

-- what the walk has left comes last of what it had left at the beginning
abbrev pub invariant-steps : goal.invariant-steps
invariant-steps g l =
    let rs = g.L.ChangeLog.records l.log in
    record {
      stands : g.L.ChangeLog.stands l.log l.at;
      passed : List Record;
      left : tuple_todo rs (Some l.fn.spot) ≡ passed ++ tuple_todo rs (Some l.at);
    }

abbrev pub decreases-steps : goal.decreases-steps
decreases-steps g l = length (tuple_todo (g.L.ChangeLog.records l.log) (Some l.at))
