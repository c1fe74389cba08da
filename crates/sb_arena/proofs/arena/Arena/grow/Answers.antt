use Rattle.std.proofs.Common.{◌∷◌, ◌++◌, [], None, replicate, ap, ◌∙◌, arith}
use Rattle.sb_arena.proofs.Joined.{joined, free_block, joined_more, more, whole_more}
use Rattle.sb_arena.proofs.arena.Arena.grow.Goals as goal

pub invariant_of-self-2 : goal.invariant_of-self-2
invariant_of-self-2 g c =
    let bs = c.self.inside.blocks.items in
    let is = c.push_reserved.ensures.items ∙ ap (λ l. l ++ c.in_ok-block.block ∷ []) c.reserve.ensures.items in
    record {
      whole = whole_more 4096 bs c.push_reserved.new.self.items c.in_ok-block.block is c.self.invariant.whole (free_block 4096 c.in_ok-block.block c.in_ok-block.ensures);
      count = omega (arith, more 4096 bs c.push_reserved.new.self.items c.in_ok-block.block is, c.self.invariant.count, c.in-Some.ensures);
    }

pub returns-clause-ok : goal.returns-clause-ok
returns-clause-ok g c =
    let bs = c.self.inside.blocks.items in
    let is = c.push_reserved.ensures.items ∙ ap (λ l. l ++ c.in_ok-block.block ∷ []) c.reserve.ensures.items in
    joined_more bs c.push_reserved.new.self.items c.in_ok-block.block is ∙ ap (λ l. joined bs ++ l) c.in_ok-block.ensures ∙ ap (λ l. l ++ replicate 4096 None) c.self.view_is
