use Rattle.std.proofs.Common.{[], ◌∷◌}
use Rattle.sb_postgres.specs.Templates.{spaced}
use Rattle.sb_postgres.proofs.FillParts.{value_part, other_part, other_text}
use Rattle.sb_postgres.proofs.query.template.push_part.Goals as goal

pub returns-in_ok-push_spaced-in-Some : goal.returns-in_ok-push_spaced-in-Some
returns-in_ok-push_spaced-in-Some c =
    let v = c.in-Some.value.now in
    (spaced v, value_part c.args.values.now c.args.kind c.args.at c.args.bytes.now v c.in-Parameter.is c.in-Some.ensures, c.in_ok-push_spaced-in-Some.ensures)

pub returns-in_ok-extend_from_slice-in_default : goal.returns-in_ok-extend_from_slice-in_default
returns-in_ok-extend_from_slice-in_default c =
    let kind = c.args.kind in
    let bytes = c.args.bytes.now in
    ((kind, bytes) ∷ [], other_part c.args.values.now kind c.args.at bytes c.in_default.not-Parameter, other_text c.args.out.now.items _ bytes kind c.in_ok-extend_from_slice-in_default.ensures.items)
