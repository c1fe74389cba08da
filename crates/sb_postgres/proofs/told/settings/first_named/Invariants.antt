use Rattle.std.proofs.Common.{◌≡◌, length, map}
use Rattle.sb_postgres.specs.Settings.{first_named}
use Rattle.sb_postgres.proofs.told.settings.first_named.Given as goal

abbrev pub invariant-loop-left : goal.invariant-loop-left
invariant-loop-left l = first_named (map (λ s. (s.0.now, s.1.now)) l.left) l.name ≡ first_named (map (λ s. (s.0.now, s.1.now)) l.settings) l.name

abbrev pub decreases-loop-left : goal.decreases-loop-left
decreases-loop-left l = length l.left
