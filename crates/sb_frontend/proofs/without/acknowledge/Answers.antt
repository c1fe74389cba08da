use Rattle.sb_frontend.specs.Stepless.{warnings}
use Rattle.sb_frontend.proofs.Saying.{tells-after}
use Rattle.sb_frontend.proofs.without.acknowledge.Goals as goal

pub returns-clause-told : goal.returns-clause-told
returns-clause-told c = tells-after (warnings c.args.kind c.args.has c.args.own) _ c.args.out.now c.warn_of.new.out c.hold_tag.new.self c.warn_of.ensures c.hold_tag.ensures
