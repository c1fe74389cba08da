use Rattle.std.proofs.Common.{arith, sym, ap, length}
use Rattle.sb_arena.proofs.Fulls.{filled_in, length-somes}
use Rattle.sb_arena.proofs.block.Block.get.Goals as goal

pub get-requires : goal.get-requires
get-requires g c = let b = c.self.inside in let inv = c.self.invariant in
    (sym inv.parts.0, filled_in b.cells.slots c.args.place inv.full (omega (arith, length-somes b.cells.slots inv.full, c.requires, ap length c.self.view_is)))
