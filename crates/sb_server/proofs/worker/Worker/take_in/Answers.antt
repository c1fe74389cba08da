use Rattle.std.proofs.Common.{◌∙◌, ap, Vec}
use Rattle.std.specs.Global.{Global}
use Rattle.sb_desk.specs.declared.stub.Stub.{Stub}
use Rattle.sb_server.proofs.Gains.{gains_nothing}
use Rattle.sb_server.proofs.worker.Worker.take_in.Goals as goal

-- nothing is closed
pub returns-in-None-clause-gains : goal.returns-in-None-clause-gains
returns-in-None-clause-gains g c =
    gains_nothing g.D.Doorkeeper.policy c.args.self.now.stubs.items c.note_answered.new.self.stubs.items
    (ap (λ (stubs : Vec Stub Global). stubs.items) (c.note_answered.ensures.others.0 ∙ c.put_back.ensures.stubs ∙ c.pauses-is_paused.ensures.others.0 ∙ c.listen.ensures.others.0 ∙ c.take_out.ensures.stubs))

-- there is no such connection
pub returns-in_default-clause-gains : goal.returns-in_default-clause-gains
returns-in_default-clause-gains g c =
    gains_nothing g.D.Doorkeeper.policy c.args.self.now.stubs.items c.take_out.new.self.stubs.items (ap (λ (stubs : Vec Stub Global). stubs.items) c.take_out.ensures.stubs)
