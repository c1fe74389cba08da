use Rattle.std.proofs.Common.{◌≡◌}
use Rattle.std.specs.Prelude.{replicate}
use Rattle.sb_durable.specs.Recording.{first_reach}
use Rattle.sb_durable.proofs.record_player.first_reaches.Given as goal

abbrev pub invariant-loop-tenant : goal.invariant-loop-tenant
invariant-loop-tenant l = l.reaches.items ≡ replicate l._tenant first_reach
