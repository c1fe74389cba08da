use Rattle.std.proofs.Common.{◌-◌, take, length, ap, ◌∙◌}
use Rattle.sb_arena.proofs.Joined.{cut}
use Rattle.sb_arena.proofs.arena.Arena.shrink.Goals as goal

pub returns-in-Some : goal.returns-in-Some
returns-in-Some g c =
    cut 4096 c.pop.new.self.items c.self.inside.blocks.items c.in-Some.last c.in-Some.ensures.items c.self.invariant.whole ∙ ap (λ l. take (length l - 4096) l) c.self.view_is
