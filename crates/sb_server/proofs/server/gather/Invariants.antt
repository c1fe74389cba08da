use Rattle.std.proofs.Common.{◌≡◌, ◌++◌}
use Rattle.std.specs.List.{flat_map}
use Rattle.std.specs.Vec.Iter.{into_iter_items}
use Rattle.sb_server.proofs.server.gather.Given as goal

abbrev pub invariant-loop-part : goal.invariant-loop-part
invariant-loop-part l =
    l.stubs.items ++ flat_map (λ part. part.items) (into_iter_items l.part-iterator) ≡ flat_map (λ part. part.items) l.fn.parts.items
