use Rattle.std.proofs.Common.{arith}
use Rattle.slab.proofs.SlabLemmas.{vacant_after_removal}
use Rattle.sb_server.proofs.Gains.{gains_then}
use Rattle.sb_server.proofs.worker.Worker.close_all.Goals as goal

-- the one that is closed is vacant, and so are those that were
pub loop-key-preserved : goal.loop-key-preserved
loop-key-preserved g c =
    let old = c.loop-key.self.client_connections in
    let new = c.end.new.self.client_connections in
    let was = c.loop-key.invariant.2 in (
      gains_then g.D.Doorkeeper.policy c.args.self.now.stubs.items c.loop-key.self.stubs.items c.end.new.self.stubs.items c.loop-key.invariant.0 c.end.ensures.gains,
      omega arith,
      λ k. (
        (λ below. vacant_after_removal old new c.loop-key.key k c.end.ensures.ends (λ differs. (was k).0 (omega arith))),
        (λ vacant. vacant_after_removal old new c.loop-key.key k c.end.ensures.ends (λ differs. (was k).1 vacant)),
      ),
    )
