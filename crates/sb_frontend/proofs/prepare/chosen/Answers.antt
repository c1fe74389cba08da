use Rattle.sb_frontend.proofs.Preparing.{chosen-more}
use Rattle.sb_frontend.proofs.prepare.chosen.Goals as goal

pub loop-k-preserved : goal.loop-k-preserved
loop-k-preserved c =
    chosen-more c.args.given.now c.args.known.now c.loop-k.k c.chosen_at.result c.loop-k.types.items c.push.new.self.items c.loop-k.invariant c.chosen_at.ensures c.in_ok-push.ensures.items
