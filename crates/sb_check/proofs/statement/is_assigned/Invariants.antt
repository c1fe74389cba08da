use Rattle.std.proofs.Common.{◌≡◌, drop, map}
use Rattle.std.specs.Prelude.{◌==◌}
use Rattle.std.specs.List.{list_any}
use Rattle.sb_check.proofs.statement.is_assigned.Given as goal

-- the assignments that are left decide
abbrev pub invariant-loop-assignment : goal.invariant-loop-assignment
invariant-loop-assignment l = list_any (λ k. k == l.place) (map (λ a. a.place) l.done) ≡ list_any (λ k. k == l.place) (map (λ a. a.place) (drop l.assignment-index l.done))
