use Rattle.std.proofs.Common.{◌≡◌, ◌+◌, ◌≤◌, drop, length}
use Rattle.sb_process.specs.Budget.{rules_on}
use Rattle.sb_process.proofs.budget.rules_on.Given as goal

-- those that were passed and those that are left
abbrev pub invariant-loop-rule : goal.invariant-loop-rule
invariant-loop-rule l = record {
  few : l.count ≤ l.rule-index;
  all : l.count + length (rules_on (drop l.rule-index l.rules) l.table) ≡ length (rules_on l.rules l.table);
}
