use Rattle.std.proofs.Common.{◌≡◌, ◌<◌, ◌*◌, ◌^◌, pos, ◌-ℤ◌, w64, to_z, of_z, arith}
use Rattle.std.proofs.lemmas.Int.{ints}
use Rattle.sb_rows.specs.Range.{reach_of}
use Rattle.sb_rows.proofs.Ranges.{product_bounds}
use Rattle.sb_rows.proofs.range.Range.product.Goals as goal

pub returns-in-Ok-clause-held : goal.returns-in-Ok-clause-held
returns-in-Ok-clause-held c =
    let low : c.in-Some.reach < 2 ^ 63 = omega (arith, ints, c.in-Ok.ensures.0.sfits) in
    let up : to_z w64 (of_z w64 c.in-Ok.greatest) ≡ pos c.in-Some.reach = omega (arith, ints, c.in-Ok.ensures.1) in
    let down : to_z w64 (of_z w64 (pos 0 -ℤ to_z w64 (of_z w64 c.in-Ok.greatest))) ≡ pos 0 -ℤ pos c.in-Some.reach = omega (arith, ints, up) in
    let is : c.in-Some.reach ≡ reach_of c.args.self * reach_of c.args.other = rw (c.reach.ensures, c.reach-2.ensures) at c.in-Some.ensures.1 in
    λ x y p q. rw (down, up) (product_bounds c.args.self c.args.other c.in-Some.reach is low x y p q)
