-- One step down in a bound on nesting.
use Rattle.std.proofs.Common.{◌≡◌, ◌<◌, ℕ, suc, ◌-◌, None, ap, arith}
use Rattle.sb_syntax.specs.Tree.{Query}
use Rattle.sb_syntax.specs.Input.{Input}
use Rattle.sb_syntax.specs.Reading.{Reader, inner_query, query_to, inner_neg, neg, refuse, cond, conj}

pub one_deeper_query : (depth : ℕ) → 0 < depth → inner_query depth ≡ query_to (depth - 1)
unfolding inner_query query_to
one_deeper_query depth some = let e : depth ≡ suc (depth - 1) = omega arith in ap inner_query e

pub no_deeper_query : (depth : ℕ) → depth ≡ 0 → inner_query depth ≡ refuse
unfolding inner_query
no_deeper_query depth none = ap inner_query none

pub one_deeper_neg : (sub : Reader Query) (nesting : ℕ) → 0 < nesting → inner_neg sub nesting ≡ neg sub (nesting - 1)
unfolding inner_neg neg
one_deeper_neg sub nesting some = let e : nesting ≡ suc (nesting - 1) = omega arith in ap (inner_neg sub) e

pub no_deeper_neg : (sub : Reader Query) (nesting : ℕ) → nesting ≡ 0 → inner_neg sub nesting ≡ refuse
unfolding inner_neg
no_deeper_neg sub nesting none = ap (inner_neg sub) none

pub no_deeper_cond : (sub : Reader Query) (nesting : ℕ) (ts : Input) → nesting ≡ 0 → cond (inner_neg sub nesting) ts ≡ None
unfolding cond conj
no_deeper_cond sub nesting ts none = ap (λ d. cond d ts) (no_deeper_neg sub nesting none)
