use Rattle.std.proofs.Common.{rules, ◌≡◌, get_or, pos, ◌∙◌, FitsSigned, w64, arith}
use Rattle.std.proofs.lemmas.Int.{to_z-of_z}
use Rattle.sb_rows.proofs.Steps.{changed_more, next_unchanged, unchanged}
use Rattle.sb_rows.proofs.values.apply_same.Goals as goal

pub loop-k-init : goal.loop-k-init
loop-k-init g c = unchanged _ _ _

pub apply-requires : goal.apply-requires
apply-requires g c =
    let first : FitsSigned w64 (get_or c.loop-k.numbers c.loop-k.k (pos 0)) = search rules in
    let second : FitsSigned w64 c.args.other.now = search rules in
    rw (to_z-of_z w64 _ first, to_z-of_z w64 _ second, next_unchanged _ _ _ _ _ c.loop-k.invariant) (c.requires c.loop-k.k c.loop-k-test.true)

pub loop-k-preserved : goal.loop-k-preserved
loop-k-preserved g c =
    let first : FitsSigned w64 (get_or c.loop-k.numbers c.loop-k.k (pos 0)) = search rules in
    let second : FitsSigned w64 c.args.other.now = search rules in
    let result : FitsSigned w64 c.apply.result = search rules in
    let is : c.apply.result ≡ g.O.Operation.exact (get_or c.args.numbers.now c.loop-k.k (pos 0)) c.args.other.now = rw (to_z-of_z w64 _ first, to_z-of_z w64 _ second, next_unchanged _ _ _ _ _ c.loop-k.invariant) at c.apply.ensures in
    changed_more _ _ _ _ _ _ c.loop-k.invariant c.loop-k-test.true (to_z-of_z w64 _ result ∙ is)

pub returns : goal.returns
returns g c = record {
  long = c.loop-k.invariant.long;
  each = λ k h. c.loop-k.invariant.done k (omega arith);
}
