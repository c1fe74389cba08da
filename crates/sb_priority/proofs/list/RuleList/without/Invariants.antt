use Rattle.std.proofs.Common.{◌≡◌, not, ◌==◌, take}
use Rattle.std.specs.List.{filter}
use Rattle.sb_priority.proofs.list.RuleList.without.Given as goal

-- the rules so far, without the dropped one
abbrev pub invariant-loop-rule : goal.invariant-loop-rule
invariant-loop-rule l = l.kept ≡ filter (λ r. not (r == l.dropped)) (take l.rule-index l.self)
