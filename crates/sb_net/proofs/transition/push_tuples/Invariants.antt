use Rattle.std.proofs.Common.{◌≡◌, ◌++◌, map}
use Rattle.sb_rawlog.specs.Changes.{is_op}
use Rattle.sb_rawlog.specs.Records.{Record, walk}
use Rattle.sb_rawlog.specs.Steps.{op_todo}
use Rattle.sb_net.proofs.transition.push_tuples.Given as goal

-- the numbers so far, with those of what the walk has left
abbrev pub invariant-loop-change : goal.invariant-loop-change
invariant-loop-change g l =
    let rs = g.L.ChangeLog.records l.log in
    record {
      log : l.change-iterator.log.now ≡ l.log;
      told : l.tuples.items ++ map (λ (r : Record). r.1.tuple) (op_todo rs l.change-iterator.next)
          ≡ l.initial.tuples.items ++ map (λ (r : Record). r.1.tuple) (walk (is_op l.scope.who l.scope.table l.fn.kind) l.scope.since rs);
    }
