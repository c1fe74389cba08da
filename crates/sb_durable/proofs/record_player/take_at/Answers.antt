use Rattle.std.proofs.Common.{◌∙◌, ap, length, length-set, None}
use Rattle.std.proofs.lemmas.Option.{slice_get-get_or}
use Rattle.sb_durable.proofs.record_player.take_at.Goals as goal

pub returns-clause-taken : goal.returns-clause-taken
returns-clause-taken g c = cc (slice_get-get_or c.args.sessions.now.items c.args.place c.index_mut.result.now c.requires)

pub returns-clause-left : goal.returns-clause-left
returns-clause-left g c = cc

pub returns-clause-len : goal.returns-clause-len
returns-clause-len g c = length-set c.args.sessions.now.items c.args.place c.take.new.self
