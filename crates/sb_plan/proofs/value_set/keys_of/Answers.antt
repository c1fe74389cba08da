use Rattle.std.proofs.Common.{subst, arith, List}
use Rattle.std.proofs.lemmas.List.{take_all}
use Rattle.sb_plan.specs.ValueSet.{AreKeysOf}
use Rattle.sb_plan.specs.declared.value_ref.ValueRef.{ValueRef}
use Rattle.sb_plan.proofs.Flagging.{keys_more, keys_none}
use Rattle.sb_plan.proofs.value_set.keys_of.Goals as goal

pub loop-value-init : goal.loop-value-init
loop-value-init c = keys_none c.in-Some-clear_flags.keys c.in-Some-clear_flags.ensures

pub loop-value-preserved : goal.loop-value-preserved
loop-value-preserved c =
    keys_more c.args.values.now c.loop-value.value-index c.value-item.result c.loop-value.keys c.set_flag.new.keys (omega arith) c.value-item.is c.loop-value.invariant c.if-not-set_flag.ensures

pub returns : goal.returns
returns c =
    let P : List ValueRef → Type 0 = λ vs. AreKeysOf vs c.loop-value.keys in
    subst P (take_all c.loop-value.value-index c.args.values.now (omega arith)) c.loop-value.invariant
