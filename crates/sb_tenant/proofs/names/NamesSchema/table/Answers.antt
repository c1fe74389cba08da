use Rattle.sb_tenant.proofs.Looking.{seen_there, nothing_there}
use Rattle.sb_tenant.proofs.names.NamesSchema.table.Goals as goal

pub returns-in-Some : goal.returns-in-Some
returns-in-Some c = seen_there c.args.self.now.tables.now c.args.name.now c.in-Some.id c.columns_of.result.now c.names_agree.ensures c.in-Some.ensures c.columns_of.ensures

pub returns-in-None : goal.returns-in-None
returns-in-None c = nothing_there c.args.self.now.tables.now c.args.name.now c.in-None.ensures
