use Rattle.std.proofs.Common.{◌≡◌, [], map}
use Rattle.std.specs.Prelude.{replicate}
use Rattle.sb_durable.proofs.record_player.no_stubs.Given as goal

abbrev pub invariant-loop-tenant : goal.invariant-loop-tenant
invariant-loop-tenant l = map (λ own. own.items) l.lists.items ≡ replicate l._tenant []
