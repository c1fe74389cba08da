use Rattle.std.proofs.Common.{rules}
use Rattle.std.proofs.lemmas.Fn.{always_returns_same}
use Rattle.sb_plan.proofs.Searching.{among-permutation, ordered}
use Rattle.sb_plan.proofs.value_set.ValueSet.of.Goals as goal

pub invariant_of-result-2 : goal.invariant_of-result-2
invariant_of-result-2 c = λ many. c.sort_unstable_by.ensures.sorted _ ordered (always_returns_same _ _ _ (λ a r f k. (search rules, search rules)))

pub returns : goal.returns
returns c = λ wanted. among-permutation wanted _ _ c.sort_unstable_by.ensures.permutation
