use Rattle.std.proofs.Common.{◌≡◌, ◌+◌, ◌*◌, length}
use Rattle.std.specs.Vec.Iter.{into_iter_items}
use Rattle.sb_replay.specs.Parts.{Opens}
use Rattle.sb_replay.proofs.Lists.{Fills}
use Rattle.sb_replay.proofs.part.attach_all.Given as goal

abbrev pub invariant-loop-commands : goal.invariant-loop-commands
invariant-loop-commands g l = record {
  fills : Fills Opens l.fn.rows.items (into_iter_items l.commands-iterator) l.parts.items;
  count : length l.parts.items + length (into_iter_items l.commands-iterator) ≡ 8 * l.host;
}
