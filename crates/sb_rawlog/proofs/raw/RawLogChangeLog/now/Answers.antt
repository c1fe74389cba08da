use Rattle.std.proofs.Common.{subst}
use Rattle.sb_rawlog.specs.Raw.{Raw, records_of}
use Rattle.sb_rawlog.specs.Records.{Rising}
use Rattle.sb_rawlog.specs.Sessions.{MarksCut, TimesCut}
use Rattle.sb_rawlog.proofs.Marks.{marks_cut, times_cut}
use Rattle.sb_rawlog.proofs.Steps.{seen_rises}
use Rattle.sb_rawlog.proofs.raw.RawLogChangeLog.now.Goals as goal

pub returns-clause-rising : goal.returns-clause-rising
returns-clause-rising c = let a = c.self.inside in let inv = c.self.invariant in subst (λ (v : Raw). Rising 0 (records_of v) a.clock) c.self.view_is (seen_rises a.arena a.heads.ops.items a.heads.tuples.items a.heads.sessions.items inv.order a.clock a.room inv.holds)

pub returns-clause-marks : goal.returns-clause-marks
returns-clause-marks c = let a = c.self.inside in let inv = c.self.invariant in subst (λ (v : Raw). MarksCut (records_of v)) c.self.view_is (marks_cut _ a.clock (seen_rises a.arena a.heads.ops.items a.heads.tuples.items a.heads.sessions.items inv.order a.clock a.room inv.holds))

pub returns-clause-times : goal.returns-clause-times
returns-clause-times c = let a = c.self.inside in let inv = c.self.invariant in subst (λ (v : Raw). TimesCut (records_of v)) c.self.view_is (times_cut _ a.clock (seen_rises a.arena a.heads.ops.items a.heads.tuples.items a.heads.sessions.items inv.order a.clock a.room inv.holds))
