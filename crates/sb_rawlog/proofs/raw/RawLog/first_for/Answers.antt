use Rattle.std.proofs.Common.{subst}
use Rattle.sb_rawlog.specs.KeySteps.{KeyFirst}
use Rattle.sb_rawlog.specs.Raw.{Raw, Stands, records_of}
use Rattle.sb_rawlog.proofs.Steps.{first_chain, first_places, key_first_is}
use Rattle.sb_rawlog.proofs.raw.RawLog.first_for.Goals as goal

pub search-requires : goal.search-requires
search-requires c = let a = c.self.inside in let inv = c.self.invariant in let k = c.args.key.now in
    (a.clock, (first_places a.arena a.heads.ops.items a.heads.tuples.items a.heads.sessions.items inv.order a.clock a.room inv.holds k c.args.since, first_chain a.arena a.heads.ops.items a.heads.tuples.items a.heads.sessions.items inv.order a.clock a.room inv.holds k c.args.since c.first-head.result c.first-head.ensures))

pub returns : goal.returns
returns c = let a = c.self.inside in let inv = c.self.invariant in let k = c.args.key.now in
    subst (λ (v : Raw). KeyFirst (Stands v) (records_of v) k c.args.since c.search.result) c.self.view_is
    (key_first_is a.arena a.heads.ops.items a.heads.tuples.items a.heads.sessions.items inv.order a.clock a.room inv.holds k c.args.since c.search.result (c.search.ensures a.clock (first_places a.arena a.heads.ops.items a.heads.tuples.items a.heads.sessions.items inv.order a.clock a.room inv.holds k c.args.since) (first_chain a.arena a.heads.ops.items a.heads.tuples.items a.heads.sessions.items inv.order a.clock a.room inv.holds k c.args.since c.first-head.result c.first-head.ensures)))
