use Rattle.std.proofs.Common.{◌∙◌, sym, ap}
use Rattle.sb_value.specs.Table.{Table}
use Rattle.sb_process.proofs.Views.{seen_some, seen_none}
use Rattle.sb_process.proofs.view.ViewSources.next_number.Goals as goal

pub returns-in-Some : goal.returns-in-Some
returns-in-Some c = c.next.ensures.value ∙ ap (λ (t : Table). t.next) (sym (seen_some c.args.self.now.tables.now c.args.table c.get.result c.in-Some.table c.get.ensures c.in-Some.is))

pub returns-in-None : goal.returns-in-None
returns-in-None c = ap (λ (t : Table). t.next) (sym (seen_none c.args.self.now.tables.now c.args.table c.get.result c.get.ensures c.in-None.is))
