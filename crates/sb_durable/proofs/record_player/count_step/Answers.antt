use Rattle.std.proofs.Common.{refl}
use Rattle.sb_durable.proofs.Calls.{set_changed_same}
use Rattle.sb_durable.proofs.record_player.count_step.Goals as goal

pub returns-clause-counted : goal.returns-clause-counted
returns-clause-counted c =
    set_changed_same (λ reach. record { volume = reach.volume; entries = c.args.number }) c.args.tenant c.args.reaches.now.items c.index-before.result.now _ c.requires c.index-before.ensures refl
