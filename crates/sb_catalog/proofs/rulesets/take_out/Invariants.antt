use Rattle.std.proofs.Common.{◌≡◌, ◌++◌, map, take, drop}
use Rattle.sb_catalog.proofs.Entries.{lacks}
use Rattle.sb_catalog.proofs.rulesets.take_out.Given as goal

-- the sets that were passed lack the rule, and the others are as they were
abbrev pub invariant-loop-place : goal.invariant-loop-place
invariant-loop-place l =
    l.sets.entries ≡ map (lacks l.rule) (take l.place l.initial.sets.entries) ++ drop l.place l.initial.sets.entries
