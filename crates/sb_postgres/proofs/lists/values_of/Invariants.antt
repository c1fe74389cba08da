use Rattle.std.proofs.Common.{◌≡◌, ◌-◌, map, option_copied}
use Rattle.sb_postgres.specs.Reading.{items_at, value_at}
use Rattle.sb_postgres.proofs.Loop.{with_front}
use Rattle.sb_postgres.proofs.lists.values_of.Given as goal

abbrev pub invariant-loop : goal.invariant-loop
invariant-loop l = with_front (map option_copied l.found.items) (items_at value_at (l.count - l.counter) l.rest) ≡ items_at value_at l.count l.bytes
