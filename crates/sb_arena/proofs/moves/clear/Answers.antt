use Rattle.std.proofs.Common.{arith, sym, ◌∙◌}
use Rattle.sb_arena.proofs.Fulls.{filled_in, all_alike}
use Rattle.sb_arena.proofs.moves.clear.Goals as goal

pub read-requires : goal.read-requires
read-requires g c = let i = c.loop-i.invariant in
    let had = filled_in c.args.cells.now.slots c.loop-i.i c.requires.2 (omega (arith, c.requires.1)) in
    (c.requires.0 ∙ sym i.at, (had.0, i.left c.loop-i.i (omega arith) ∙ had.1))

pub returns : goal.returns
returns g c = let i = c.loop-i.invariant in (i.at, all_alike c.loop-i.cells.slots c.args.count _ i.len (λ k lt. i.gone k (omega arith)))
