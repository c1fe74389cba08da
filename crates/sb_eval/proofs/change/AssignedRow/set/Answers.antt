use Rattle.sb_eval.proofs.Changing.{seen-refill}
use Rattle.sb_eval.proofs.change.AssignedRow.set.Goals as goal

pub returns : goal.returns
returns c = seen-refill c.put.new.values c.self.inside.values.items c.as_mut_slice.result.now c.args.place c.args.value c.args.self.now c.put.ensures c.as_mut_slice.ensures.value c.self.view_is
