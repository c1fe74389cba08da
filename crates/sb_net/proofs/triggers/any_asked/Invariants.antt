use Rattle.std.proofs.Common.{◌≡◌}
use Rattle.sb_rawlog.specs.Changes.{is_op}
use Rattle.sb_rawlog.specs.Records.{walk}
use Rattle.sb_rawlog.specs.Steps.{op_todo}
use Rattle.sb_net.specs.Hits.{any_asked}
use Rattle.sb_net.proofs.triggers.any_asked.Given as goal

-- no tuple that was asked was hit so far
abbrev pub invariant-loop-time : goal.invariant-loop-time
invariant-loop-time g l =
    let rs = g.L.ChangeLog.records l.log in
    record {
      log : l.time-iterator.log.now ≡ l.log;
      left : any_asked l.triggers l.scope l.fn.kind rs (walk (is_op l.scope.who l.scope.table l.fn.kind) l.fn.tested rs) ≡ any_asked l.triggers l.scope l.fn.kind rs (op_todo rs l.time-iterator.next);
    }
