use Rattle.std.proofs.Common.{◌≡◌, ◌+◌, ◌≤◌, drop}
use Rattle.sb_eval.specs.Laws.{inserts}
use Rattle.sb_process.proofs.prepared_changes.insert_count.Given as goal

-- those that were passed and those that are left
abbrev pub invariant-loop-change : goal.invariant-loop-change
invariant-loop-change l = record {
  few : l.count ≤ l.change-index;
  all : l.count + inserts (drop l.change-index l.changes) ≡ inserts l.changes;
}
