use Rattle.std.proofs.Common.{ap, sym, inl, arith, refl, ◌∙◌}
use Rattle.sb_syntax.specs.Views.{command as tree_of}
use Rattle.sb_process.specs.declared.database.Database.{Database}
use Rattle.sb_tenant.specs.declared.reply.Reply.{Reply}
use Rattle.sb_tenant.specs.Walk.{class_of}
use Rattle.sb_tenant.proofs.Classes.{definitions_define}
use Rattle.sb_tenant.proofs.Answering.{refused_command, allowed_command, performs_command, rests_to_define, idle_has_none, done_performs, leaves_defined}
use Rattle.sb_tenant.proofs.Leaving.{leaves_more, leaves_same}
use Rattle.sb_tenant.proofs.store.Store.respond.Goals as goal

abbrev first : Reply × Reply → Reply
first r = r.0

pub returns-in-Some-clause-answered : goal.returns-in-Some-clause-answered
returns-in-Some-clause-answered g c = λ state h. refused_command c.index.ensures.value c.index.ensures.in_range h (tree_of c.args.command) c.class_of-class.ensures c.args.self.now.database.id c.args.asker.now.bound c.in-Some.ensures (ap first c.refused.ensures)

pub returns-in-Some-clause-leaves : goal.returns-in-Some-clause-leaves
returns-in-Some-clause-leaves g c = leaves_same 32768000 refl refl

-- ---- the phases of sessions

pub returns-in-OpenSession-clause-answered : goal.returns-in-OpenSession-clause-answered
returns-in-OpenSession-clause-answered g c = λ state h.
    allowed_command c.index.ensures.value c.index.ensures.in_range h (tree_of c.args.command) c.class_of-class.ensures c.args.self.now.database.id c.args.asker.now.bound c.in-None.ensures
    (performs_command state c.args.self.now.database.id c.args.asker.now.bound c.args.asker.now.session (ap tree_of c.in-OpenSession.is) (inl (ap first c.done.ensures, c.open.ensures.opened (g.L.ChangeLog.records c.args.log.now) (g.L.ChangeLog.clock c.args.log.now) c.args.index.now state h)))

pub returns-in-OpenSession-clause-leaves : goal.returns-in-OpenSession-clause-leaves
returns-in-OpenSession-clause-leaves g c = leaves_same 32768000 (ap (λ (d : Database). d.id) c.open.ensures.database) (ap (λ (d : Database). d.tables) c.open.ensures.database)

pub returns-in-EndSession-clause-answered : goal.returns-in-EndSession-clause-answered
returns-in-EndSession-clause-answered g c = λ state h.
    allowed_command c.index.ensures.value c.index.ensures.in_range h (tree_of c.args.command) c.class_of-class.ensures c.args.self.now.database.id c.args.asker.now.bound c.in-None.ensures
    (performs_command state c.args.self.now.database.id c.args.asker.now.bound c.args.asker.now.session (ap tree_of c.in-EndSession.is) (inl (ap first c.done-in-EndSession.ensures, c.end.ensures.ended c.args.index.now state h)))

pub returns-in-EndSession-clause-leaves : goal.returns-in-EndSession-clause-leaves
returns-in-EndSession-clause-leaves g c = leaves_more c.end.ensures.leaves (omega arith)

pub returns-in-Begin-clause-answered : goal.returns-in-Begin-clause-answered
returns-in-Begin-clause-answered g c = λ state h.
    allowed_command c.index.ensures.value c.index.ensures.in_range h (tree_of c.args.command) c.class_of-class.ensures c.args.self.now.database.id c.args.asker.now.bound c.in-None.ensures
    (performs_command state c.args.self.now.database.id c.args.asker.now.bound c.args.asker.now.session (ap tree_of c.in-Begin.is) (inl (ap first c.done-in-Begin.ensures, c.begin.ensures.begun (g.L.ChangeLog.records c.args.log.now) (g.L.ChangeLog.clock c.args.log.now) c.args.index.now state h)))

pub returns-in-Begin-clause-leaves : goal.returns-in-Begin-clause-leaves
returns-in-Begin-clause-leaves g c = leaves_same 32768000 c.begin.ensures.id c.begin.ensures.tables

-- ---- definitions

pub define-requires-clause-rest : goal.define-requires-clause-rest
define-requires-clause-rest g c = (rests_to_define c.args.self.now.phases c.index.ensures.value c.index.ensures.in_range (c.class_of-class.ensures ∙ (ap (λ x. class_of (tree_of x)) c.in-Definition.is ∙ definitions_define c.in-Definition.definition)) c.in-None.ensures).0

pub returns-in-Definition-clause-answered : goal.returns-in-Definition-clause-answered
returns-in-Definition-clause-answered g c = λ state h.
    let idle = (rests_to_define c.args.self.now.phases c.index.ensures.value c.index.ensures.in_range (c.class_of-class.ensures ∙ (ap (λ x. class_of (tree_of x)) c.in-Definition.is ∙ definitions_define c.in-Definition.definition)) c.in-None.ensures).1 in
    allowed_command c.index.ensures.value c.index.ensures.in_range h (tree_of c.args.command) c.class_of-class.ensures c.args.self.now.database.id c.args.asker.now.bound c.in-None.ensures
    (performs_command state c.args.self.now.database.id c.args.asker.now.bound c.args.asker.now.session (ap tree_of c.in-Definition.is) (done_performs c.define.new.self (g.L.ChangeLog.records c.args.log.now) (g.L.ChangeLog.clock c.args.log.now) c.define.new.index state c.args.asker.now.session _ c.define.result c.replied.result.0 (idle_has_none c.index.ensures.value c.index.ensures.in_range h idle) (ap first c.replied.ensures)
    (c.define.ensures.done (g.L.ChangeLog.records c.args.log.now) (g.L.ChangeLog.clock c.args.log.now) state c.args.self.now.database.id c.args.asker.now.bound c.args.asker.now.session h)))

pub returns-in-Definition-clause-leaves : goal.returns-in-Definition-clause-leaves
returns-in-Definition-clause-leaves g c = leaves_defined c.define.ensures

-- ---- work

pub returns-in-InTransaction-clause-answered : goal.returns-in-InTransaction-clause-answered
returns-in-InTransaction-clause-answered g c = λ state h. allowed_command c.index.ensures.value c.index.ensures.in_range h (tree_of c.args.command) c.class_of-class.ensures c.args.self.now.database.id c.args.asker.now.bound c.in-None.ensures
    (performs_command state c.args.self.now.database.id c.args.asker.now.bound c.args.asker.now.session (ap tree_of c.in-InTransaction.is) (c.work.ensures.performed state h))
