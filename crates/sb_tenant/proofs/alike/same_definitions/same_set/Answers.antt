use Rattle.std.proofs.Common.{◌≡◌, length, sym, ◌∙◌, arith}
use Rattle.sb_value.specs.Limits.{rule_limit}
use Rattle.sb_tenant.proofs.AlikePlaces.{flags_are}
use Rattle.sb_tenant.proofs.alike.same_definitions.same_set.Goals as goal

pub returns : goal.returns
returns c h =
    let whole : length c.args.one ≡ rule_limit = c.capacity.ensures.flags ∙ c.capacity.ensures.value in
    let other : length c.args.other ≡ rule_limit = c.capacity-2.ensures.flags ∙ c.capacity-2.ensures.value in
    flags_are c.args.one c.args.other (whole ∙ sym other)
    (λ k below. c.loop-number.invariant k (omega (arith, below, whole, c.loop-number-test.false)))
