use Rattle.std.proofs.Common.{◌<◌, ◌*◌, Some, None, arith, ◌∙◌, ap, length, length-set, get_or, set}
use Rattle.sb_arena.proofs.Joined.{joined, block_in, place_in, read, written, kept}
use Rattle.sb_arena.proofs.arena.Arena.put.Goals as goal

pub index_mut-requires : goal.index_mut-requires
index_mut-requires g c = let bs = c.self.inside.blocks.items in
    let within : c.args.place < length (joined bs) = omega (arith, c.requires.within, ap length c.self.view_is) in
    omega (arith, block_in 4096 (omega arith) bs c.self.invariant.whole c.args.place within)

pub put-requires-clause-within : goal.put-requires-clause-within
put-requires-clause-within g c = let bs = c.self.inside.blocks.items in
    let within : c.args.place < length (joined bs) = omega (arith, c.requires.within, ap length c.self.view_is) in
    place_in 4096 (omega arith) bs c.self.invariant.whole c.args.place within c.index_mut.result.now c.index_mut.ensures.value

pub put-requires-clause-free : goal.put-requires-clause-free
put-requires-clause-free g c = let bs = c.self.inside.blocks.items in
    let within : c.args.place < length (joined bs) = omega (arith, c.requires.within, ap length c.self.view_is) in
    read 4096 (omega arith) bs c.self.invariant.whole c.args.place within c.index_mut.result.now c.index_mut.ensures.value None ∙ ap (λ l. get_or l c.args.place None) c.self.view_is ∙ c.requires.free

pub invariant_of-self : goal.invariant_of-self
invariant_of-self g c = let bs = c.self.inside.blocks.items in
    let within : c.args.place < length (joined bs) = omega (arith, c.requires.within, ap length c.self.view_is) in
    record {
      whole = kept 4096 (omega arith) bs c.self.invariant.whole c.args.place within c.index_mut.result.now c.index_mut.ensures.value c.put.new.self (Some c.args.value) c.put.ensures;
      count = ap (λ k. k * 4096) (length-set bs _ _) ∙ c.self.invariant.count;
    }

pub returns : goal.returns
returns g c = let bs = c.self.inside.blocks.items in
    let within : c.args.place < length (joined bs) = omega (arith, c.requires.within, ap length c.self.view_is) in
    written 4096 (omega arith) bs c.self.invariant.whole c.args.place within c.index_mut.result.now c.index_mut.ensures.value c.put.new.self (Some c.args.value) c.put.ensures ∙ ap (λ l. set l c.args.place (Some c.args.value)) c.self.view_is
