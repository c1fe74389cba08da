use Rattle.std.proofs.Common.{◌≡◌, ◌-◌, length, map}
use Rattle.sb_postgres.specs.Startup.{pair_seen}
use Rattle.sb_postgres.specs.StartupReading.{parameters_at}
use Rattle.sb_postgres.proofs.Loop.{with_front}
use Rattle.sb_postgres.proofs.startup.parameters_at.Given as goal

abbrev pub invariant-loop : goal.invariant-loop
invariant-loop l = with_front (map pair_seen l.found.items) (parameters_at (length l.bytes - l.counter) l.rest) ≡ parameters_at (length l.bytes) l.bytes
