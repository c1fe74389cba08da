use Rattle.sb_workers.proofs.Laying.{in_place, slots_full}
use Rattle.sb_workers.proofs.results.Rack.list.Goals as goal

pub in_a_row-requires-clause-full : goal.in_a_row-requires-clause-full
in_a_row-requires-clause-full g c = slots_full c.args.done.items c.lay-slots.result.items c.lay-slots.ensures.held

pub returns-clause-lists : goal.returns-clause-lists
returns-clause-lists g c = in_place c.args.done.items c.lay-slots.result.items c.in_a_row.result.items c.in_a_row.ensures c.lay-slots.ensures.held
