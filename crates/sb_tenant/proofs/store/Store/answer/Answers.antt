use Rattle.std.proofs.Common.{refl, arith}
use Rattle.sb_syntax.specs.Views.{command as tree_of}
use Rattle.sb_tenant.proofs.Answering.{few_spelt, performs_line}
use Rattle.sb_tenant.proofs.Leaving.{leaves_more, leaves_same}
use Rattle.sb_tenant.proofs.store.Store.answer.Goals as goal

pub respond-requires-clause-few : goal.respond-requires-clause-few
respond-requires-clause-few g c = few_spelt c.args.asker.now.line.now (tree_of c.in-Ok.command) c.in-Ok.ensures.found

pub returns-in-Ok-clause-answered : goal.returns-in-Ok-clause-answered
returns-in-Ok-clause-answered g c = λ state h.
    performs_line c.respond.new.self (g.L.ChangeLog.records c.respond.new.log) (g.L.ChangeLog.clock c.respond.new.log) c.respond.new.index state c.args.self.now.database.id c.args.asker.now.bound c.args.asker.now.session c.args.asker.now.line.now (tree_of c.in-Ok.command) c.respond.result.0
    c.in-Ok.ensures.computed (c.respond.ensures.answered state h)

pub returns-in-Err-NoMemory-clause-answered : goal.returns-in-Err-NoMemory-clause-answered
returns-in-Err-NoMemory-clause-answered g c = λ state h. c.run_out.ensures.performed c.args.index.now state _ (state, h, refl)

pub returns-in-Err-NoMemory-clause-leaves : goal.returns-in-Err-NoMemory-clause-leaves
returns-in-Err-NoMemory-clause-leaves g c = leaves_more c.run_out.ensures.leaves (omega arith)

pub returns-in-Err-Syntax-clause-leaves : goal.returns-in-Err-Syntax-clause-leaves
returns-in-Err-Syntax-clause-leaves g c = leaves_same 32768000 refl refl
