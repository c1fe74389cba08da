use Rattle.std.proofs.Common.{sym, ◌∷◌, ◌∙◌}
use Rattle.sb_value.specs.ValueEquality.{same_row_is}
use Rattle.sb_tenant.proofs.alike.trees.+same_rest.Goals as goal

-- the first tuples are equal, and so are the rest
pub returns-then-same_row : goal.returns-then-same_row
returns-then-same_row t c h =
    let first = same_row_is c.in-Some.tuple.now c.in-Some-next.second.now (sym c.same_row.ensures ∙ c.if-same_row.true) in
    let rest = c.same_rest.ensures h in
    c.in-Some.ensures.taken ∙ (λ i. first i ∷ rest i) ∙ sym c.in-Some-next.ensures.taken
