use Rattle.sb_tenant.proofs.Looking.{numbers_tell}
use Rattle.sb_tenant.proofs.names.NamesSchema.tells_columns.Goals as goal

pub returns : goal.returns
returns c = numbers_tell c.args.self.now.tables.now c.names_agree.ensures
