use Rattle.std.proofs.Common.{◌<◌, None, arith, ◌∙◌, ap, length, get_or}
use Rattle.sb_arena.proofs.Joined.{joined, block_in, place_in, read}
use Rattle.sb_arena.proofs.arena.Arena.get.Goals as goal

pub index-requires : goal.index-requires
index-requires g c = let bs = c.self.inside.blocks.items in
    let within : c.args.place < length (joined bs) = omega (arith, c.requires, ap length c.self.view_is) in
    omega (arith, block_in 4096 (omega arith) bs c.self.invariant.whole c.args.place within)

pub get-requires : goal.get-requires
get-requires g c = let bs = c.self.inside.blocks.items in
    let within : c.args.place < length (joined bs) = omega (arith, c.requires, ap length c.self.view_is) in
    place_in 4096 (omega arith) bs c.self.invariant.whole c.args.place within c.index.result.now c.index.ensures

pub returns : goal.returns
returns g c = let bs = c.self.inside.blocks.items in
    let within : c.args.place < length (joined bs) = omega (arith, c.requires, ap length c.self.view_is) in
    c.get.ensures ∙ read 4096 (omega arith) bs c.self.invariant.whole c.args.place within c.index.result.now c.index.ensures None ∙ ap (λ l. get_or l c.args.place None) c.self.view_is
