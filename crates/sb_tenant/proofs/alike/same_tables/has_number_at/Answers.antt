use Rattle.std.proofs.Common.{◌+◌, ◌||◌, List, drop, ap, sym, ◌∙◌}
use Rattle.sb_value.specs.Table.{Entry, has_table}
use Rattle.sb_tables.specs.Held.{entries}
use Rattle.sb_tenant.proofs.AlikePlaces.{entries_past, number_more}
use Rattle.sb_tenant.proofs.alike.same_tables.has_number_at.Goals as goal

pub returns-in-Some : goal.returns-in-Some
returns-in-Some c =
    let held = c.in-Some.held in
    number_more c.args.tables.now c.args.place (record { id = held.id; name = held.name.now; stored = held.table.now }) c.args.id c.in-Some.ensures
    ∙ ap (λ b. b || has_table (drop (c.args.place + 1) (entries c.args.tables.now)) c.args.id) (sym c.eq.ensures)

-- there is no table
pub returns-in-None : goal.returns-in-None
returns-in-None c = ap (λ (es : List Entry). has_table es c.args.id) (entries_past c.args.tables.now c.args.place c.in-None.ensures)
