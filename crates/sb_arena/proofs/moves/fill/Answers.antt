use Rattle.std.proofs.Common.{None, arith, ◌∙◌, ap, length, get_or, refl}
use Rattle.std.proofs.lemmas.List.{length-replicate}
use Rattle.sb_arena.proofs.Fulls.{get-nones, all_alike}
use Rattle.sb_arena.proofs.moves.fill.Goals as goal

pub loop-i-init : goal.loop-i-init
loop-i-init g c = record {
  within = omega arith;
  at = refl;
  len = ap length c.requires.1 ∙ length-replicate c.args.count None;
  full = λ k lt. absurd (omega arith);
  empty = λ k le. ap (λ l. get_or l k None) c.requires.1 ∙ get-nones c.args.count k;
}

pub returns : goal.returns
returns g c = let i = c.loop-i.invariant in (i.at, all_alike c.loop-i.cells.slots c.args.count _ i.len (λ k lt. i.full k (omega arith)))
