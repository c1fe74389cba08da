use Rattle.std.proofs.Common.{◌^◌, arith, subst}
use Rattle.sb_value.specs.declared.net.Transition.{Transition}
use Rattle.sb_process.specs.Statement.{Runs}
use Rattle.sb_process.proofs.database.Database.change.Goals as goal

pub run-requires-clause-room : goal.run-requires-clause-room
run-requires-clause-room g c = record { times = omega (arith, c.requires.times); numbers = (2 ^ 63, omega arith, c.requires.numbers) }

pub returns-clause-leaves : goal.returns-clause-leaves
returns-clause-leaves g c = c.run.ensures.leaves

pub returns-clause-changed : goal.returns-clause-changed
returns-clause-changed g c = λ origin setting progress w.
    subst
    (λ (t : Transition). Runs origin c.run.new.self c.args.session t c.args.statement.now c.run.result (g.L.ChangeLog.records c.run.new.log) (g.L.ChangeLog.clock c.run.new.log) setting progress)
    c.no_transition-none.ensures (c.run.ensures.ran origin setting progress w)
