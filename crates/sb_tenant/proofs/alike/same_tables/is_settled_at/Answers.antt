use Rattle.std.proofs.Common.{sym, ◌∙◌}
use Rattle.std.proofs.lemmas.Bool.{not-true}
use Rattle.sb_tenant.proofs.AlikePlaces.{settled_more}
use Rattle.sb_tenant.proofs.alike.same_tables.is_settled_at.Goals as goal

-- no table behind it has its number, and its rows are in order
pub returns-in-Some : goal.returns-in-Some
returns-in-Some c alone =
    let held = c.in-Some.held in
    settled_more c.args.tables.now c.args.place (record { id = held.id; name = held.name.now; stored = held.table.now })
    c.in-Some.ensures c.next.ensures.sound.0
    (sym c.has_number_from.ensures ∙ not-true c.has_number_from.result alone)
