use Rattle.std.proofs.Common.{ap, Vec}
use Rattle.std.specs.Global.{Global}
use Rattle.sb_desk.specs.declared.stub.Stub.{Stub}
use Rattle.sb_server.proofs.Gains.{gains_nothing, gains_then}
use Rattle.sb_server.proofs.worker.Worker.give_turns.Goals as goal

-- the turns that began, the ones that were put off, and the replies
pub returns-clause-gains : goal.returns-clause-gains
returns-clause-gains g c =
    let p = g.D.Doorkeeper.policy in
    let old = c.args.self.now.stubs.items in
    let begun = c.begin_turns-served.new.self.stubs.items in
    let put = c.put_off.new.self.stubs.items in
    let all = c.begin_all_turns.new.self.stubs.items in
    let end = c.finish.new.self.stubs.items in
    let same = gains_nothing p begun put (ap (λ (stubs : Vec Stub Global). stubs.items) c.put_off.ensures.0) in
    gains_then p old begun end c.begin_turns-served.ensures.gains
    (gains_then p begun put end same (gains_then p put all end c.begin_all_turns.ensures.gains c.finish.ensures.gains))
