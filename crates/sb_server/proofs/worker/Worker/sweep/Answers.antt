use Rattle.std.proofs.Common.{ap, length, Vec, arith}
use Rattle.std.specs.Global.{Global}
use Rattle.sb_desk.specs.declared.stub.Stub.{Stub}
use Rattle.sb_server.specs.Sessions.{session_count}
use Rattle.sb_server.proofs.Gains.{gains_nothing, gains_then}
use Rattle.sb_server.proofs.worker.Worker.sweep.Goals as goal

-- one is judged, and its tenant may be noted
pub loop-key-preserved : goal.loop-key-preserved
loop-key-preserved g c =
    let p = g.D.Doorkeeper.policy in
    let old = c.args.self.now.stubs.items in
    let judged = c.judge.new.self.stubs.items in
    let noted = c.note_awaiting.new.self.stubs.items in
    let same = ap (λ (s : Vec Stub Global). s.items) c.note_awaiting.ensures.0 in
    let long = ap length same in
    let count = ap (λ s. session_count s (λ v. v.value.connection.attached)) c.note_awaiting.ensures.1 in (
      gains_then p old judged noted (gains_then p old c.loop-key.self.stubs.items judged c.loop-key.invariant.0 c.judge.ensures.gains) (gains_nothing p judged noted same),
      omega (arith, long, count),
    )
