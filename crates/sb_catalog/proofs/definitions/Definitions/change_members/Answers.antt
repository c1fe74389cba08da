use Rattle.std.proofs.Common.{refl}
use Rattle.sb_catalog.specs.Sets.{has_name}
use Rattle.sb_catalog.specs.Definitions.{rules_named}
use Rattle.sb_catalog.proofs.InOrder.{refused_beside}
use Rattle.sb_catalog.proofs.definitions.Definitions.change_members.Goals as goal

pub returns-in-Err : goal.returns-in-Err
returns-in-Err c = (
  refused_beside (has_name c.args.self.now.rulesets c.args.set.now) (rules_named c.args.self.now.rules c.args.names.now) c.in-Err.refusal c.refusal_beside.result c.in-Err.ensures c.refusal_beside.ensures,
  refl,
)
