use Rattle.std.proofs.Common.{true, ◌≡◌, sym, ap, ◌∙◌, subst}
use Rattle.sb_rawlog.specs.KeySteps.{KeyNext}
use Rattle.sb_rawlog.specs.Keys.{fits}
use Rattle.sb_rawlog.specs.Links.{link}
use Rattle.sb_rawlog.specs.Raw.{Raw, Stands, records_of}
use Rattle.sb_rawlog.proofs.Steps.{standing, next_chain, next_places, key_next_is}
use Rattle.sb_rawlog.proofs.raw.RawLog.next_for.Goals as goal

pub link-behind-requires : goal.link-behind-requires
link-behind-requires c = let a = c.self.inside in let inv = c.self.invariant in let n = standing a.arena a.heads.ops.items a.heads.tuples.items a.heads.sessions.items inv.order a.clock a.room inv.holds c.args.spot (subst (λ (v : Raw). Stands v c.args.spot) (sym c.self.view_is) c.requires.0) in (n.0, n.1.0)

pub search-requires : goal.search-requires
search-requires c = let a = c.self.inside in let inv = c.self.invariant in let k = c.args.key.now in let s = c.args.spot in
    let st = subst (λ (v : Raw). (st : Stands v s) × (fits k st.change ≡ true)) (sym c.self.view_is) c.requires in
    let n = standing a.arena a.heads.ops.items a.heads.tuples.items a.heads.sessions.items inv.order a.clock a.room inv.holds s st.0 in let good = ap (fits k) n.1.1.1 ∙ st.1 in (
      s.time,
      (
        next_places a.arena a.heads.ops.items a.heads.tuples.items a.heads.sessions.items inv.order a.clock a.room inv.holds k s.since s.place n.0 n.1.0 good s.time n.1.1.0,
        next_chain a.arena a.heads.ops.items a.heads.tuples.items a.heads.sessions.items inv.order a.clock a.room inv.holds k s.since s.place n.0 n.1.0 good s.time n.1.1.0 c.link-behind.result (c.link-behind.ensures ∙ ap (λ w. link w a.arena s.place) c.list.ensures),
      ),
    )

pub returns : goal.returns
returns c = let a = c.self.inside in let inv = c.self.invariant in let k = c.args.key.now in let s = c.args.spot in
    let st = subst (λ (v : Raw). (st : Stands v s) × (fits k st.change ≡ true)) (sym c.self.view_is) c.requires in
    let n = standing a.arena a.heads.ops.items a.heads.tuples.items a.heads.sessions.items inv.order a.clock a.room inv.holds s st.0 in let good = ap (fits k) n.1.1.1 ∙ st.1 in
    subst (λ (v : Raw). KeyNext (Stands v) (records_of v) k s c.search.result) c.self.view_is
    (key_next_is a.arena a.heads.ops.items a.heads.tuples.items a.heads.sessions.items inv.order a.clock a.room inv.holds k s n.0 n.1.0 good n.1.1.0 c.search.result (c.search.ensures s.time (next_places a.arena a.heads.ops.items a.heads.tuples.items a.heads.sessions.items inv.order a.clock a.room inv.holds k s.since s.place n.0 n.1.0 good s.time n.1.1.0) (next_chain a.arena a.heads.ops.items a.heads.tuples.items a.heads.sessions.items inv.order a.clock a.room inv.holds k s.since s.place n.0 n.1.0 good s.time n.1.1.0 c.link-behind.result (c.link-behind.ensures ∙ ap (λ w. link w a.arena s.place) c.list.ensures))))
