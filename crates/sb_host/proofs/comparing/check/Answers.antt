use Rattle.std.proofs.Common.{rules, List, subst}
use Rattle.std.proofs.lemmas.List.Sorted.{IsNonDecreasingBy-from_sort_by_key}
use Rattle.sb_desk.specs.declared.receipts.Receipt.{Receipt}
use Rattle.sb_desk.specs.Receipts.{receipts_of}
use Rattle.sb_host.specs.Comparing.{Lists}
use Rattle.sb_host.specs.Finish.{step_of}
use Rattle.sb_host.proofs.Wanted.{sorted_compares}
use Rattle.sb_host.proofs.comparing.check.Goals as goal

pub returns-clause-found : goal.returns-clause-found
returns-clause-found c =
    sorted_compares c.args.session c.args.trail.now c.args.receipts.now.items _ _ c.sort_unstable_by_key.ensures.permutation
    (IsNonDecreasingBy-from_sort_by_key step_of _ c.sort_unstable_by_key.ensures.sorted (λ a r q k. search rules))
    (subst (λ (l : List Receipt). Lists l (receipts_of c.args.session 1 c.args.trail.now) c.compare.result) c.as_slice.ensures.value c.compare.ensures)
