use Rattle.std.proofs.Common.{arith}
use Rattle.sb_frontend.proofs.Connecting.{answers-then, none-answered}
use Rattle.sb_frontend.proofs.connection_state.ConnectionState.advance.Goals as goal

pub loop-message-init : goal.loop-message-init
loop-message-init g c = (none-answered g.O.SessionSource.source c.args.self.now, omega arith)

pub loop-message-preserved : goal.loop-message-preserved
loop-message-preserved g c =
    let shorter = c.step.ensures.goes c.if-not-step.false in
    let few = c.loop-message.invariant.1 in
    (answers-then g.O.SessionSource.source c.args.self.now c.loop-message.self c.step.new.self c.loop-message.invariant.0 c.step.ensures.answers, omega (arith, shorter, few))

pub returns-then-not-step-clause-answers : goal.returns-then-not-step-clause-answers
returns-then-not-step-clause-answers g c =
    answers-then g.O.SessionSource.source c.args.self.now c.loop-message.self c.step.new.self c.loop-message.invariant.0 c.step.ensures.answers

pub returns-clause-answers : goal.returns-clause-answers
returns-clause-answers g c = c.loop-message.invariant.0

pub returns-clause-goes : goal.returns-clause-goes
returns-clause-goes g c = λ more.
    let few = c.loop-message.invariant.1 in omega (arith, few)
