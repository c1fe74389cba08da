use Rattle.std.proofs.Common.{◌∙◌, sym, ap, length}
use Rattle.std.proofs.lemmas.List.{length-map}
use Rattle.sb_value.specs.Table.{Table, values}
use Rattle.sb_process.proofs.Views.{seen_some, seen_none}
use Rattle.sb_process.proofs.view.table_len.Goals as goal

pub returns-in-Some : goal.returns-in-Some
returns-in-Some c = c.len.ensures ∙ sym (length-map c.in-Some.table.now.table.rows (λ r. r.1)) ∙ ap (λ (t : Table). length (values t)) (sym (seen_some c.args.tables.now c.args.table c.get.result c.in-Some.table c.get.ensures c.in-Some.is))

pub returns-in-None : goal.returns-in-None
returns-in-None c = ap (λ (t : Table). length (values t)) (sym (seen_none c.args.tables.now c.args.table c.get.result c.get.ensures c.in-None.is))
