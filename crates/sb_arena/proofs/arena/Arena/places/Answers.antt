use Rattle.std.proofs.Common.{length, sym, ap, ◌∙◌}
use Rattle.sb_arena.proofs.Joined.{length_joined}
use Rattle.sb_arena.proofs.arena.Arena.places.Goals as goal

pub returns : goal.returns
returns g c = sym c.self.invariant.count ∙ sym (length_joined 4096 c.self.inside.blocks.items c.self.invariant.whole) ∙ ap length c.self.view_is
