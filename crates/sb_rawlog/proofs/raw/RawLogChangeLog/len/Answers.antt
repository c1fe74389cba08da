use Rattle.std.proofs.Common.{length, ap, arith}
use Rattle.sb_rawlog.specs.Raw.{records_of}
use Rattle.sb_rawlog.proofs.Steps.{seen_long}
use Rattle.sb_rawlog.proofs.raw.RawLogChangeLog.len.Goals as goal

pub returns : goal.returns
returns c = let a = c.self.inside in let inv = c.self.invariant in let long = seen_long a.arena a.heads.ops.items a.heads.tuples.items a.heads.sessions.items inv.order a.clock a.room inv.holds in let same = ap (λ v. length (records_of v)) c.self.view_is in omega (arith, inv.counted)
