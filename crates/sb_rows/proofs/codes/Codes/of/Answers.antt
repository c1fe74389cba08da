use Rattle.std.proofs.Common.{rules}
use Rattle.std.proofs.lemmas.Fn.{always_returns_same}
use Rattle.std.proofs.lemmas.List.Sorted.{IsPermutation-map}
use Rattle.sb_rows.proofs.CodeLaws.{ordered}
use Rattle.sb_rows.proofs.codes.Codes.of.Goals as goal

pub invariant_of-result : goal.invariant_of-result
invariant_of-result c = c.sort_unstable_by.ensures.sorted _ ordered (always_returns_same _ _ _ (λ a r f k. (search rules, search rules)))

pub returns : goal.returns
returns c = IsPermutation-map (λ text. text.now) _ _ c.sort_unstable_by.ensures.permutation
