use Rattle.std.proofs.Common.{◌≡◌, ◌||◌, option_map, Some, sym, ap, ◌∙◌, subst}
use Rattle.sb_value.specs.NetEffect.{is_operation}
use Rattle.sb_net.specs.declared.effect.NetOf.{NetOf}
use Rattle.sb_net.specs.declared.effect.NetOf.TheVariants.{Updated}
use Rattle.sb_net.specs.Meets.{meets}
use Rattle.sb_net.specs.Seen.{seen}
use Rattle.sb_net.proofs.MaskLaws.{meets_update}
use Rattle.sb_net.proofs.operations.add_net.Goals as goal

pub returns-in-Some-Updated : goal.returns-in-Some-Updated
returns-in-Some-Updated c = λ t.
    let a = c.in-Some-Updated in
    let net : a.field-0 ≡ Updated a.field-0-0 a.field-0-1 a.columns = rw a.is at a.field-0-is in
    let is : c.args.net.now ≡ Some (Updated a.field-0-0 a.field-0-1 a.columns) = subst (λ (n : NetOf). c.args.net.now ≡ Some n) net a.is in
    meets_update t c.args.found.now a.columns c.union-found.result c.union-found.ensures.value
    ∙ ap (λ n. meets t c.args.found.now || is_operation t (option_map seen n)) (sym is)
