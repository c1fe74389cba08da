use Rattle.std.proofs.Common.{◌≡◌, ◌+◌, [], Some, None, length, refl, ap, ◌∙◌, subst, arith}
use Rattle.sb_rawlog.specs.Links.{Member}
use Rattle.sb_rawlog.specs.Logs.{shown}
use Rattle.sb_rawlog.proofs.Orders.{length-taken}
use Rattle.sb_rawlog.specs.declared.key.Key.TheVariants.{Session as SessionKey}
use Rattle.sb_rawlog.specs.Changes.{is_by}
use Rattle.sb_rawlog.specs.Raw.{Raw, Stands, records_of}
use Rattle.sb_rawlog.specs.Records.{Rising, walk, others}
use Rattle.sb_rawlog.specs.Steps.{SpotsStay, TakesNewest}
use Rattle.sb_rawlog.proofs.Free.{gave_back, in_use}
use Rattle.sb_rawlog.proofs.Sessions.{takes_last, take_leaves_others, others-taken}
use Rattle.sb_rawlog.proofs.Steps.{first_chain, first_places, no_first, seen_rises}
use Rattle.sb_rawlog.proofs.Taken.{takes_newest, taken_spots, taken_long}
use Rattle.sb_rawlog.proofs.raw.RawLog.pop.Goals as goal

pub search-requires : goal.search-requires
search-requires c = let a = c.self.inside in let inv = c.self.invariant in let k = SessionKey c.args.who in (a.clock, (first_places a.arena a.heads.ops.items a.heads.tuples.items a.heads.sessions.items inv.order a.clock a.room inv.holds k 0, first_chain a.arena a.heads.ops.items a.heads.tuples.items a.heads.sessions.items inv.order a.clock a.room inv.holds k 0 c.first-head.result c.first-head.ensures))

pub returns-in_default-clause-taken : goal.returns-in_default-clause-taken
returns-in_default-clause-taken c = let a = c.self.inside in let inv = c.self.invariant in let k = SessionKey c.args.who in
    (subst (λ (v : Raw). walk (is_by c.args.who) 0 (records_of v) ≡ []) c.self.view_is (no_first a.arena a.heads.ops.items a.heads.tuples.items a.heads.sessions.items inv.order a.clock a.room inv.holds k 0 (c.in_default.ensures a.clock (first_places a.arena a.heads.ops.items a.heads.tuples.items a.heads.sessions.items inv.order a.clock a.room inv.holds k 0) (first_chain a.arena a.heads.ops.items a.heads.tuples.items a.heads.sessions.items inv.order a.clock a.room inv.holds k 0 c.first-head.result c.first-head.ensures))), refl)

pub returns-in_default-clause-own : goal.returns-in_default-clause-own
returns-in_default-clause-own c = takes_last c.args.who (records_of c.args.self.now) (records_of c.args.self.now) None (returns-in_default-clause-taken c)

pub take_out-change-requires : goal.take_out-change-requires
take_out-change-requires c = let a = c.self.inside in let inv = c.self.invariant in let k = SessionKey c.args.who in let hit = c.in-Some.ensures a.clock (first_places a.arena a.heads.ops.items a.heads.tuples.items a.heads.sessions.items inv.order a.clock a.room inv.holds k 0) (first_chain a.arena a.heads.ops.items a.heads.tuples.items a.heads.sessions.items inv.order a.clock a.room inv.holds k 0 c.first-head.result c.first-head.ensures) in (inv.order, (a.clock, (inv.holds, inv.holds.log.all c.in-Some.spot.place (hit.node, hit.here))))

pub give_back-requires-clause-within : goal.give_back-requires-clause-within
give_back-requires-clause-within c = let a = c.self.inside in let inv = c.self.invariant in let k = SessionKey c.args.who in let hit = c.in-Some.ensures a.clock (first_places a.arena a.heads.ops.items a.heads.tuples.items a.heads.sessions.items inv.order a.clock a.room inv.holds k 0) (first_chain a.arena a.heads.ops.items a.heads.tuples.items a.heads.sessions.items inv.order a.clock a.room inv.holds k 0 c.first-head.result c.first-head.ensures) in
    in_use a.free.items a.used c.in-Some.spot.place a.arena inv.free (hit.node, hit.here)

pub give_back-requires-clause-roomy : goal.give_back-requires-clause-roomy
give_back-requires-clause-roomy c = let a = c.self.inside in let inv = c.self.invariant in let k = SessionKey c.args.who in let hit = c.in-Some.ensures a.clock (first_places a.arena a.heads.ops.items a.heads.tuples.items a.heads.sessions.items inv.order a.clock a.room inv.holds k 0) (first_chain a.arena a.heads.ops.items a.heads.tuples.items a.heads.sessions.items inv.order a.clock a.room inv.holds k 0 c.first-head.result c.first-head.ensures) in let there : Member c.in-Some.spot.place inv.order = inv.holds.log.all c.in-Some.spot.place (hit.node, hit.here) in
    let one = length-taken a.arena c.in-Some.spot.place a.clock inv.order inv.holds.log.falls there in omega (arith, inv.counted, inv.free.within, inv.roomy)

pub invariant_of-self : goal.invariant_of-self
invariant_of-self c = let a = c.self.inside in let inv = c.self.invariant in let k = SessionKey c.args.who in let hit = c.in-Some.ensures a.clock (first_places a.arena a.heads.ops.items a.heads.tuples.items a.heads.sessions.items inv.order a.clock a.room inv.holds k 0) (first_chain a.arena a.heads.ops.items a.heads.tuples.items a.heads.sessions.items inv.order a.clock a.room inv.holds k 0 c.first-head.result c.first-head.ensures) in let there : Member c.in-Some.spot.place inv.order = inv.holds.log.all c.in-Some.spot.place (hit.node, hit.here) in
    let t = c.take_out-change.ensures inv.order a.clock inv.holds there in
    let one = length-taken a.arena c.in-Some.spot.place a.clock inv.order inv.holds.log.falls there in
    let gave = gave_back a.free.items c.give_back.new.free.items a.used c.give_back.new.used c.in-Some.spot.place a.arena c.take_out-change.new.arena inv.free (hit.node, hit.here) t.long t.gone t.others c.give_back.ensures.place in
    record {
      order = _;
      holds = t.holds;
      free = gave.0;
      counted = omega (arith, inv.counted, gave.1);
      roomy = omega (arith, inv.roomy, t.long, c.give_back.ensures.capacity);
      spare = omega (arith, inv.spare, t.long, gave.1);
    }

pub returns-clause-taken : goal.returns-clause-taken
returns-clause-taken c = let a = c.self.inside in let inv = c.self.invariant in let k = SessionKey c.args.who in let hit = c.in-Some.ensures a.clock (first_places a.arena a.heads.ops.items a.heads.tuples.items a.heads.sessions.items inv.order a.clock a.room inv.holds k 0) (first_chain a.arena a.heads.ops.items a.heads.tuples.items a.heads.sessions.items inv.order a.clock a.room inv.holds k 0 c.first-head.result c.first-head.ensures) in let there : Member c.in-Some.spot.place inv.order = inv.holds.log.all c.in-Some.spot.place (hit.node, hit.here) in
    let t = c.take_out-change.ensures inv.order a.clock inv.holds there in
    subst (λ (v : Raw). TakesNewest c.args.who (records_of v) (records_of (record { places = shown c.take_out-change.new.arena; clock = a.clock; room = a.room + 1 })) (Some c.take_out-change.result)) c.self.view_is (takes_newest a.arena c.take_out-change.new.arena a.heads.ops.items a.heads.tuples.items a.heads.sessions.items c.take_out-change.new.heads.ops.items c.take_out-change.new.heads.tuples.items c.take_out-change.new.heads.sessions.items inv.order a.clock a.room (a.room + 1) inv.holds c.args.who c.in-Some.spot hit c.take_out-change.result t)

pub returns-clause-spare : goal.returns-clause-spare
returns-clause-spare c = let a = c.self.inside in let inv = c.self.invariant in let k = SessionKey c.args.who in let hit = c.in-Some.ensures a.clock (first_places a.arena a.heads.ops.items a.heads.tuples.items a.heads.sessions.items inv.order a.clock a.room inv.holds k 0) (first_chain a.arena a.heads.ops.items a.heads.tuples.items a.heads.sessions.items inv.order a.clock a.room inv.holds k 0 c.first-head.result c.first-head.ensures) in let there : Member c.in-Some.spot.place inv.order = inv.holds.log.all c.in-Some.spot.place (hit.node, hit.here) in
    let t = c.take_out-change.ensures inv.order a.clock inv.holds there in
    let long = taken_long a.arena c.take_out-change.new.arena a.heads.ops.items a.heads.tuples.items a.heads.sessions.items c.take_out-change.new.heads.ops.items c.take_out-change.new.heads.tuples.items c.take_out-change.new.heads.sessions.items inv.order a.clock a.room (a.room + 1) inv.holds c.in-Some.spot.place c.take_out-change.result t there in let same = ap (λ v. length (records_of v)) c.self.view_is in let room = ap (λ (v : Raw). v.room) c.self.view_is in omega arith

pub returns-clause-spots : goal.returns-clause-spots
returns-clause-spots c = let a = c.self.inside in let inv = c.self.invariant in let k = SessionKey c.args.who in let hit = c.in-Some.ensures a.clock (first_places a.arena a.heads.ops.items a.heads.tuples.items a.heads.sessions.items inv.order a.clock a.room inv.holds k 0) (first_chain a.arena a.heads.ops.items a.heads.tuples.items a.heads.sessions.items inv.order a.clock a.room inv.holds k 0 c.first-head.result c.first-head.ensures) in let there : Member c.in-Some.spot.place inv.order = inv.holds.log.all c.in-Some.spot.place (hit.node, hit.here) in
    let t = c.take_out-change.ensures inv.order a.clock inv.holds there in
    subst (λ (v : Raw). SpotsStay (Stands v) (Stands (record { places = shown c.take_out-change.new.arena; clock = a.clock; room = a.room + 1 })) (records_of (record { places = shown c.take_out-change.new.arena; clock = a.clock; room = a.room + 1 }))) c.self.view_is
    (taken_spots a.arena c.take_out-change.new.arena a.heads.ops.items a.heads.tuples.items a.heads.sessions.items c.take_out-change.new.heads.ops.items c.take_out-change.new.heads.tuples.items c.take_out-change.new.heads.sessions.items inv.order a.clock a.room (a.room + 1) inv.holds c.in-Some.spot.place c.take_out-change.result t)

pub returns-clause-own : goal.returns-clause-own
returns-clause-own c = let a = c.self.inside in let inv = c.self.invariant in let k = SessionKey c.args.who in takes_last c.args.who (records_of c.args.self.now) (records_of (record { places = shown c.take_out-change.new.arena; clock = a.clock; room = a.room + 1 })) (Some c.take_out-change.result) (returns-clause-taken c)

pub returns-clause-others : goal.returns-clause-others
returns-clause-others c = let a = c.self.inside in let inv = c.self.invariant in let k = SessionKey c.args.who in
    take_leaves_others c.args.who (records_of c.args.self.now) (records_of (record { places = shown c.take_out-change.new.arena; clock = a.clock; room = a.room + 1 })) a.clock (Some c.take_out-change.result) (subst (λ (v : Raw). Rising 0 (records_of v) a.clock) c.self.view_is (seen_rises a.arena a.heads.ops.items a.heads.tuples.items a.heads.sessions.items inv.order a.clock a.room inv.holds)) (returns-clause-taken c)

pub returns-clause-all_others : goal.returns-clause-all_others
returns-clause-all_others c = let a = c.self.inside in let inv = c.self.invariant in let k = SessionKey c.args.who in
    let taken = returns-clause-taken c in
    ap (others c.args.who) taken.1 ∙ others-taken c.args.who (records_of c.args.self.now) a.clock c.take_out-change.result (subst (λ (v : Raw). Rising 0 (records_of v) a.clock) c.self.view_is (seen_rises a.arena a.heads.ops.items a.heads.tuples.items a.heads.sessions.items inv.order a.clock a.room inv.holds)) taken.0
