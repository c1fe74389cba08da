use Rattle.std.proofs.Common.{Option, None, length, replicate, get_or, refl, ap, ◌∙◌, arith, length-append}
use Rattle.std.proofs.lemmas.List.{length-replicate}
use Rattle.sb_value.specs.declared.change.Change.{Change}
use Rattle.sb_rawlog.specs.declared.node.Node.{Node}
use Rattle.sb_rawlog.proofs.Free.{get-grown}
use Rattle.sb_rawlog.proofs.places.grow.Goals as goal

pub growth-init : goal.growth-init
growth-init c = record {
  same = λ p. refl;
  longer = omega arith;
  within = omega arith;
}

pub growth-preserved : goal.growth-preserved
growth-preserved c = let i = c.growth.invariant in let was = c.growth.arena in let grown = c.in_ok-grow.ensures.ok in let long = ap length grown in let sum = length-append was (replicate 4096 None) in let block = length-replicate {A = Option (Node Change)} 4096 None in record {
  same = λ p. ap (λ l. get_or l p None) grown ∙ get-grown was 4096 p ∙ i.same p;
  longer = omega (arith, long, sum, block, i.longer);
  within = omega (arith, long, sum, block);
}
