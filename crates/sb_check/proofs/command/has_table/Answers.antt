use Rattle.std.proofs.Common.{sym}
use Rattle.sb_value.specs.Name.{same_name}
use Rattle.sb_check.specs.Lent.{table_lent, table_seen}
use Rattle.sb_check.proofs.Found.{some_found, none_found}
use Rattle.sb_check.proofs.command.has_table.Goals as goal

pub returns-in-Some : goal.returns-in-Some
returns-in-Some g c =
    sym (some_found table_seen (λ e. same_name e.name c.args.name.now) (g.S.Schema.names c.args.schema.now).tables (table_lent c.in-Some.field-0) c.in-Some.ensures)

pub returns-in-None : goal.returns-in-None
returns-in-None g c =
    sym (none_found table_seen (λ e. same_name e.name c.args.name.now) (g.S.Schema.names c.args.schema.now).tables c.in-None.ensures)
