use Rattle.std.proofs.Common.{◌≡◌, ℕ, length, take, subst, arith}
use Rattle.sb_syntax.proofs.SameBytes.{same_whole}
use Rattle.sb_syntax.proofs.lexer.is_same.Goals as goal

-- all places are passed
pub returns : goal.returns
returns c =
    let one = c.args.one.now in
    let other = c.args.other.now in
    let end : c.loop-place.place ≡ length one = omega arith in
    same_whole one other (omega arith) (subst (λ (n : ℕ). take n one ≡ take n other) end c.loop-place.invariant)
