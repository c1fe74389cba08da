use Rattle.std.proofs.Common.{◌≡◌, ◌||◌}
use Rattle.sb_value.specs.declared.net.Triggers.{Triggers}
use Rattle.sb_rawlog.specs.Changes.{is_op}
use Rattle.sb_rawlog.specs.Records.{walk}
use Rattle.sb_rawlog.specs.Steps.{op_todo}
use Rattle.sb_net.specs.Hits.{any_asked}
use Rattle.sb_net.specs.Meets.{meets}
use Rattle.sb_net.proofs.operations.add_kind.Given as goal

-- what is found with what is left is what was found with all of the walk
abbrev pub invariant-loop-time : goal.invariant-loop-time
invariant-loop-time g l =
    let rs = g.L.ChangeLog.records l.log in
    record {
      log : l.time-iterator.log.now ≡ l.log;
      left : (t : Triggers) → (meets t l.initial.found || any_asked t l.scope l.fn.kind rs (walk (is_op l.scope.who l.scope.table l.fn.kind) l.fn.tested rs))
          ≡ (meets t l.found || any_asked t l.scope l.fn.kind rs (op_todo rs l.time-iterator.next));
    }
