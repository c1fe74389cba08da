use Rattle.sb_rawlog.proofs.Marks.{marks_cut, times_cut}
use Rattle.sb_rawlog.proofs.plain.PlainLogChangeLog.now.Goals as goal

pub returns-clause-marks : goal.returns-clause-marks
returns-clause-marks c = marks_cut c.args.self.now.items.items c.args.self.now.clock c.args.self.now.rising

pub returns-clause-times : goal.returns-clause-times
returns-clause-times c = times_cut c.args.self.now.items.items c.args.self.now.clock c.args.self.now.rising
