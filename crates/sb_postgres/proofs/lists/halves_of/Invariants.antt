use Rattle.std.proofs.Common.{◌≡◌, ◌-◌}
use Rattle.std.specs.Int.{w16}
use Rattle.sb_postgres.specs.Reading.{items_at, number_at}
use Rattle.sb_postgres.proofs.Loop.{with_front}
use Rattle.sb_postgres.proofs.lists.halves_of.Given as goal

abbrev pub invariant-loop : goal.invariant-loop
invariant-loop l = with_front l.found.items (items_at (number_at w16) (l.count - l.counter) l.rest) ≡ items_at (number_at w16) l.count l.bytes
