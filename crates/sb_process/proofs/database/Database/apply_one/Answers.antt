use Rattle.sb_process.proofs.Growing.{with_change}
use Rattle.sb_process.proofs.Works.{rules-indexed}
use Rattle.sb_process.proofs.database.Database.apply_one.Goals as goal

pub returns-clause-one : goal.returns-clause-one
returns-clause-one g c = λ origin setting progress w.
    with_change c.last_change_triggers.ensures c.proper_lists_have_lives.ensures c.args.rules.now.index.now c.args.self.now c.args.session (g.L.ChangeLog.records c.args.log.now) (g.L.ChangeLog.records c.append.new.self)
    (g.L.ChangeLog.clock c.args.log.now) (g.L.ChangeLog.clock c.append.new.self) setting progress origin c.args.change c.make.new.tables c.join.new.self c.count.new.self c.candidates.result w.transaction (rules-indexed w) c.requires.by
    c.requires.locked (c.make.ensures.more origin progress.changes w.transaction.made) c.join.ensures.marks c.join.ensures.tested c.join.ensures.candidates c.candidates.ensures c.append.ensures.records c.append.ensures.own c.append.ensures.clock
