use Rattle.std.proofs.Common.{◌≡◌, ◌++◌}
use Rattle.std.specs.List.{flat_map}
use Rattle.std.specs.Vec.Iter.{into_iter_items}
use Rattle.sb_durable.proofs.record_player.gather.Given as goal

abbrev pub invariant-loop-own : goal.invariant-loop-own
invariant-loop-own l =
    l.stubs.items ++ flat_map (λ own. own.items) (into_iter_items l.own-iterator) ≡ flat_map (λ own. own.items) l.fn.lists.items
