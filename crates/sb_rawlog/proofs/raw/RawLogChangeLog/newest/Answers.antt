use Rattle.std.proofs.Common.{◌≡◌, [], Some, sym, ◌∙◌, subst}
use Rattle.sb_rawlog.specs.declared.key.Key.TheVariants.{Session as SessionKey}
use Rattle.sb_rawlog.specs.Changes.{is_by}
use Rattle.sb_rawlog.specs.Raw.{Raw, records_of}
use Rattle.sb_rawlog.specs.Records.{walk}
use Rattle.sb_rawlog.specs.Steps.{Newest}
use Rattle.sb_rawlog.proofs.Chains.{node_within}
use Rattle.sb_rawlog.proofs.Steps.{first_chain, first_places, no_first, newest_is}
use Rattle.sb_rawlog.proofs.raw.RawLogChangeLog.newest.Goals as goal

pub search-requires : goal.search-requires
search-requires c = let a = c.self.inside in let inv = c.self.invariant in let k = SessionKey c.args.who in (a.clock, (first_places a.arena a.heads.ops.items a.heads.tuples.items a.heads.sessions.items inv.order a.clock a.room inv.holds k 0, first_chain a.arena a.heads.ops.items a.heads.tuples.items a.heads.sessions.items inv.order a.clock a.room inv.holds k 0 c.first-head.result c.first-head.ensures))

pub returns-in_default : goal.returns-in_default
returns-in_default c = let a = c.self.inside in let inv = c.self.invariant in let k = SessionKey c.args.who in subst (λ (v : Raw). walk (is_by c.args.who) 0 (records_of v) ≡ []) c.self.view_is
    (no_first a.arena a.heads.ops.items a.heads.tuples.items a.heads.sessions.items inv.order a.clock a.room inv.holds k 0 (c.in_default.ensures a.clock (first_places a.arena a.heads.ops.items a.heads.tuples.items a.heads.sessions.items inv.order a.clock a.room inv.holds k 0) (first_chain a.arena a.heads.ops.items a.heads.tuples.items a.heads.sessions.items inv.order a.clock a.room inv.holds k 0 c.first-head.result c.first-head.ensures)))

pub get-requires : goal.get-requires
get-requires c = let a = c.self.inside in let inv = c.self.invariant in let k = SessionKey c.args.who in let hit = c.in-Some.ensures a.clock (first_places a.arena a.heads.ops.items a.heads.tuples.items a.heads.sessions.items inv.order a.clock a.room inv.holds k 0) (first_chain a.arena a.heads.ops.items a.heads.tuples.items a.heads.sessions.items inv.order a.clock a.room inv.holds k 0 c.first-head.result c.first-head.ensures) in node_within a.arena c.in-Some.spot.place (hit.node, hit.here)

pub returns-in_default-get : goal.returns-in_default-get
returns-in_default-get c = let a = c.self.inside in let inv = c.self.invariant in let k = SessionKey c.args.who in let hit = c.in-Some.ensures a.clock (first_places a.arena a.heads.ops.items a.heads.tuples.items a.heads.sessions.items inv.order a.clock a.room inv.holds k 0) (first_chain a.arena a.heads.ops.items a.heads.tuples.items a.heads.sessions.items inv.order a.clock a.room inv.holds k 0 c.first-head.result c.first-head.ensures) in let h = hit.here in let e = c.in_default-get.ensures in absurd (cc)

pub returns : goal.returns
returns c = let a = c.self.inside in let inv = c.self.invariant in let k = SessionKey c.args.who in let hit = c.in-Some.ensures a.clock (first_places a.arena a.heads.ops.items a.heads.tuples.items a.heads.sessions.items inv.order a.clock a.room inv.holds k 0) (first_chain a.arena a.heads.ops.items a.heads.tuples.items a.heads.sessions.items inv.order a.clock a.room inv.holds k 0 c.first-head.result c.first-head.ensures) in
    let same : Some hit.node ≡ Some c.in-Some-get.node.now = sym hit.here ∙ sym c.in-Some-get.ensures in
    let it : hit.node.item ≡ c.in-Some-get.node.now.item = cc in
    subst (λ (v : Raw). Newest c.args.who (records_of v) c.in-Some-get.node.now.item) c.self.view_is (subst (Newest c.args.who _) it (newest_is a.arena a.heads.ops.items a.heads.tuples.items a.heads.sessions.items inv.order a.clock a.room inv.holds c.args.who c.in-Some.spot hit))
