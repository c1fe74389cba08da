use Rattle.sb_durable.specs.Recording.{renewed}
use Rattle.sb_durable.proofs.Calls.{set_changed_same}
use Rattle.sb_durable.proofs.record_player.pass_opening.Goals as goal

pub returns-in-Some-clause-passed : goal.returns-in-Some-clause-passed
returns-in-Some-clause-passed c = λ _. set_changed_same (λ reach. renewed reach c.args.opening) c.args.tenant c.args.reaches.now.items c.index.result.now c.in-Some.reach c.requires c.index.ensures c.in-Some.ensures.1
