use Rattle.std.proofs.Common.{◌<◌, ◌*◌, None, arith, sym, ◌∙◌, ap, length, length-set, get_or, set}
use Rattle.sb_arena.proofs.Joined.{joined, block_in, read, written, kept}
use Rattle.sb_arena.proofs.Rows.{filled_within}
use Rattle.sb_arena.proofs.arena.Arena.take.Goals as goal

pub index_mut-requires : goal.index_mut-requires
index_mut-requires g c = let bs = c.self.inside.blocks.items in
    let within : c.args.place < length (joined bs) = omega (arith, filled_within c.args.self.now c.args.place c.requires.0 c.requires.1, ap length c.self.view_is) in
    omega (arith, block_in 4096 (omega arith) bs c.self.invariant.whole c.args.place within)

pub take-requires : goal.take-requires
take-requires g c = let bs = c.self.inside.blocks.items in
    let within : c.args.place < length (joined bs) = omega (arith, filled_within c.args.self.now c.args.place c.requires.0 c.requires.1, ap length c.self.view_is) in
    (c.requires.0, read 4096 (omega arith) bs c.self.invariant.whole c.args.place within c.index_mut.result.now c.index_mut.ensures.value None ∙ ap (λ l. get_or l c.args.place None) c.self.view_is ∙ c.requires.1)

pub invariant_of-self : goal.invariant_of-self
invariant_of-self g c = let bs = c.self.inside.blocks.items in
    let within : c.args.place < length (joined bs) = omega (arith, filled_within c.args.self.now c.args.place c.requires.0 c.requires.1, ap length c.self.view_is) in
    record {
      whole = kept 4096 (omega arith) bs c.self.invariant.whole c.args.place within c.index_mut.result.now c.index_mut.ensures.value c.take.new.self None c.take.ensures.places;
      count = ap (λ k. k * 4096) (length-set bs _ _) ∙ c.self.invariant.count;
    }

pub returns-clause-value : goal.returns-clause-value
returns-clause-value g c = let bs = c.self.inside.blocks.items in
    let within : c.args.place < length (joined bs) = omega (arith, filled_within c.args.self.now c.args.place c.requires.0 c.requires.1, ap length c.self.view_is) in
    ap (λ l. get_or l c.args.place None) (sym c.self.view_is) ∙ sym (read 4096 (omega arith) bs c.self.invariant.whole c.args.place within c.index_mut.result.now c.index_mut.ensures.value None) ∙ c.take.ensures.value

pub returns-clause-places : goal.returns-clause-places
returns-clause-places g c = let bs = c.self.inside.blocks.items in
    let within : c.args.place < length (joined bs) = omega (arith, filled_within c.args.self.now c.args.place c.requires.0 c.requires.1, ap length c.self.view_is) in
    written 4096 (omega arith) bs c.self.invariant.whole c.args.place within c.index_mut.result.now c.index_mut.ensures.value c.take.new.self None c.take.ensures.places ∙ ap (λ l. set l c.args.place None) c.self.view_is
