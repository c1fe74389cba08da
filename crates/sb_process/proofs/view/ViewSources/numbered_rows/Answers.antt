use Rattle.std.proofs.Common.{◌∙◌, sym, ap}
use Rattle.sb_value.specs.Table.{Table}
use Rattle.sb_process.proofs.Views.{seen_some, seen_none}
use Rattle.sb_process.proofs.view.ViewSources.numbered_rows.Goals as goal

pub returns-in-Some : goal.returns-in-Some
returns-in-Some c = c.rows.ensures ∙ ap (λ (t : Table). t.rows) (sym (seen_some c.args.self.now.tables.now c.args.table c.get.result c.in-Some.table c.get.ensures c.in-Some.is))

pub returns-in-None : goal.returns-in-None
returns-in-None c = c.none.ensures ∙ ap (λ (t : Table). t.rows) (sym (seen_none c.args.self.now.tables.now c.args.table c.get.result c.get.ensures c.in-None.is))
