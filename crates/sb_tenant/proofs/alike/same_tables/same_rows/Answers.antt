use Rattle.std.proofs.Common.{◌∷◌, ℕ, List, map, ap, sym, ◌∙◌}
use Rattle.sb_value.specs.declared.value.Value.{Value}
use Rattle.sb_tenant.proofs.alike.same_tables.same_rows.Goals as goal

-- the next rows have the same values
pub rows-preserved : goal.rows-preserved
rows-preserved c rest =
    let first = c.same_values.ensures c.if-same_values.true in
    let row_values = λ (rows : List (ℕ × List Value)). map (λ r. r.1) rows in
    c.rows.invariant
    (ap row_values c.in-Some.ensures.steps ∙ (λ i. first i ∷ rest i) ∙ sym (ap row_values c.in-Some-next.ensures.steps))
