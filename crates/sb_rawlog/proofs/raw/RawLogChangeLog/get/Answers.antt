use Rattle.std.proofs.Common.{◌≡◌, Some, sym, ap, ◌∙◌, subst}
use Rattle.sb_rawlog.specs.Raw.{Raw, Stands, records_of}
use Rattle.sb_rawlog.specs.Fields.{seen}
use Rattle.sb_rawlog.specs.Records.{change_at}
use Rattle.sb_rawlog.proofs.Steps.{standing, place_change}
use Rattle.sb_rawlog.proofs.raw.RawLogChangeLog.get.Goals as goal

pub returns-clause-change : goal.returns-clause-change
returns-clause-change c = let a = c.self.inside in let inv = c.self.invariant in let s = c.args.spot in let n = c.in-Some.node.now in
    let st = subst (λ (v : Raw). Stands v s) (sym c.self.view_is) c.requires in let k = standing a.arena a.heads.ops.items a.heads.tuples.items a.heads.sessions.items inv.order a.clock a.room inv.holds s st in
    let same : Some k.0 ≡ Some n = sym k.1.0 ∙ sym c.in-Some.ensures in
    let time : n.time ≡ s.time = cc in
    subst (λ (v : Raw). change_at s.time (records_of v) ≡ Some n.item) c.self.view_is (ap (λ t. change_at t (records_of (seen a))) (sym time) ∙ place_change a.arena a.heads.ops.items a.heads.tuples.items a.heads.sessions.items inv.order a.clock a.room inv.holds s.place n (sym c.in-Some.ensures))
