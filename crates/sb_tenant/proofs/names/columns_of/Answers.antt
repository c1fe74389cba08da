use Rattle.std.proofs.Common.{◌∙◌, sym, ap}
use Rattle.std.specs.Option.{option_copied}
use Rattle.sb_value.specs.Table.{Table}
use Rattle.sb_tenant.proofs.Tables.{table_found, table_missing}
use Rattle.sb_tenant.proofs.names.columns_of.Goals as goal

pub returns-in-Some : goal.returns-in-Some
returns-in-Some c = c.columns.ensures ∙ sym (ap (λ (t : Table). t.columns) (table_found c.args.tables.now c.args.id c.in-Some.table.now (sym c.get.ensures ∙ ap option_copied c.in-Some.is)))

pub returns-in-None : goal.returns-in-None
returns-in-None c = sym (ap (λ (t : Table). t.columns) (table_missing c.args.tables.now c.args.id (sym c.get.ensures ∙ ap option_copied c.in-None.is)))
