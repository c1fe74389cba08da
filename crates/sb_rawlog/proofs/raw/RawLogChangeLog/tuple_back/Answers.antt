use Rattle.std.proofs.Common.{sym, ap, ◌∙◌, subst}
use Rattle.sb_rawlog.specs.declared.key.Key.TheVariants.{Tuple as TupleKey}
use Rattle.sb_rawlog.specs.Keys.{fits}
use Rattle.sb_rawlog.specs.Raw.{Raw, Stands, records_of}
use Rattle.sb_rawlog.specs.Steps.{TupleOlder}
use Rattle.sb_rawlog.proofs.Backs.{older_spot}
use Rattle.sb_rawlog.proofs.Steps.{value, standing, tuple_fits}
use Rattle.sb_rawlog.proofs.raw.RawLogChangeLog.tuple_back.Goals as goal

pub returns : goal.returns
returns c =
    let a = c.self.inside in let inv = c.self.invariant in let s = c.args.spot in let st = subst (λ (v : Raw). Stands v s) (sym c.self.view_is) c.requires in
    let n = standing a.arena a.heads.ops.items a.heads.tuples.items a.heads.sessions.items inv.order a.clock a.room inv.holds s st in
    let good = ap (fits (TupleKey s.who s.table s.tuple)) n.1.1.1 ∙ tuple_fits s st.change st.who st.table st.tuple in
    let now : Raw = value a.arena a.heads.ops.items a.heads.tuples.items a.heads.sessions.items inv.order a.clock a.room inv.holds in
    subst (λ (v : Raw). TupleOlder (Stands v) (records_of v) s c.spot_for.result) c.self.view_is
    (subst (TupleOlder (Stands now) (records_of now) s) (sym c.spot_for.ensures)
    (older_spot a.arena a.heads.ops.items a.heads.tuples.items a.heads.sessions.items inv.order a.clock a.room inv.holds s n.0 c.in-Some-node_at.older.now c.in-Some-place.place n.1.0 n.1.1.0 good c.in-Some-node_at.ensures
    c.if-older-spot.false c.if-older-spot-2.false (sym c.fits.ensures ∙ c.if-not-fits.false)))
