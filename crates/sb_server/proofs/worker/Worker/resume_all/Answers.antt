use Rattle.std.proofs.Common.{◌∙◌, refl, arith}
use Rattle.sb_server.proofs.Renewed.{same_still, same_then}
use Rattle.sb_server.proofs.worker.Worker.resume_all.Goals as goal

pub loop-key-init : goal.loop-key-init
loop-key-init g c = record { stubs = refl; sessions = omega arith; same = same_still c.args.self.now.client_connections c.args.self.now.client_connections refl }

pub loop-key-preserved : goal.loop-key-preserved
loop-key-preserved g c = record {
  stubs = c.resume.ensures.stubs ∙ c.loop-key.invariant.stubs;
  sessions = omega arith;
  same = same_then c.args.self.now.client_connections c.loop-key.self.client_connections c.resume.new.self.client_connections c.loop-key.invariant.same c.resume.ensures.same;
}
