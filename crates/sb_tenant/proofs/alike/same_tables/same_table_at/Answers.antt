use Rattle.sb_tenant.proofs.AlikePlaces.{shown_more}
use Rattle.sb_tenant.proofs.alike.same_tables.same_table_at.Goals as goal

-- both tables are shown alike, and so are those behind them
pub returns-in-Some-held_at : goal.returns-in-Some-held_at
returns-in-Some-held_at c h =
    let first = c.in-Some.first in
    let second = c.in-Some-held_at.second in
    let same = c.same_held.ensures in
    shown_more c.args.one.now c.args.other.now c.args.place
    (record { id = first.id; name = first.name.now; stored = first.table.now })
    (record { id = second.id; name = second.name.now; stored = second.table.now })
    c.in-Some.ensures c.in-Some-held_at.ensures
    (λ i. record { id = same.id h i; name = same.name h i; columns = same.columns h i; rows = same.rows h i })
