use Rattle.std.proofs.Common.{◌≡◌, ◌<◌, ℕ, ◌+◌, ◌-◌, [], ◌∷◌, ◌++◌, List, Option, Some, length, sym, ap, ◌∙◌, subst, arith, length-set}
use Rattle.sb_value.specs.declared.change.Change.{Change}
use Rattle.sb_rawlog.specs.declared.node.Node.{Node}
use Rattle.sb_rawlog.specs.Logs.{shown}
use Rattle.sb_rawlog.specs.Changes.{author}
use Rattle.sb_rawlog.specs.Places.{AreFree, HoldsLog, node_for}
use Rattle.sb_rawlog.specs.Raw.{Raw, Stands, records_of}
use Rattle.sb_rawlog.specs.Records.{Record}
use Rattle.sb_rawlog.specs.Sessions.{changes_by, OthersStay}
use Rattle.sb_rawlog.specs.Steps.{SpotsStay}
use Rattle.sb_rawlog.proofs.Free.{claimed}
use Rattle.sb_rawlog.proofs.Sessions.{own_pushed, others_pushed}
use Rattle.sb_rawlog.proofs.Taken.{holds_added, records_added, added_spots}
use Rattle.sb_rawlog.proofs.raw.RawLogChangeLog.append.Goals as goal

pub enter-requires-clause-within : goal.enter-requires-clause-within
enter-requires-clause-within c = let a = c.self.inside in let inv = c.self.invariant in let change = c.args.change in let place = c.claim-place.result in
    let more : length a.free.items ≡ 0 → a.used < length a.arena = λ e. let room = ap (λ (v : Raw). v.room) c.self.view_is in omega (arith, inv.spare, c.requires.spare) in
    let got = claimed a.free.items c.claim-place.new.free.items a.used c.claim-place.new.used place a.arena inv.free c.claim-place.ensures.place more in got.0

pub enter-requires-clause-free : goal.enter-requires-clause-free
enter-requires-clause-free c = let a = c.self.inside in let inv = c.self.invariant in let change = c.args.change in let place = c.claim-place.result in
    let more : length a.free.items ≡ 0 → a.used < length a.arena = λ e. let room = ap (λ (v : Raw). v.room) c.self.view_is in omega (arith, inv.spare, c.requires.spare) in
    let got = claimed a.free.items c.claim-place.new.free.items a.used c.claim-place.new.used place a.arena inv.free c.claim-place.ensures.place more in got.1.0

pub invariant_of-self : goal.invariant_of-self
invariant_of-self c = let a = c.self.inside in let inv = c.self.invariant in let change = c.args.change in let place = c.claim-place.result in
    let more : length a.free.items ≡ 0 → a.used < length a.arena = λ e. let room = ap (λ (v : Raw). v.room) c.self.view_is in omega (arith, inv.spare, c.requires.spare) in
    let got = claimed a.free.items c.claim-place.new.free.items a.used c.claim-place.new.used place a.arena inv.free c.claim-place.ensures.place more in
    let long = length-set a.arena place (Some (node_for a.heads.ops.items a.heads.tuples.items a.heads.sessions.items a.clock c.back_for-back.result change)) in let is = ap length c.enter.ensures.arena in
    record {
      order = place ∷ inv.order;
      holds = subst (λ (z : List (Option (Node Change)) × (List (Option ℕ) × (List (Option ℕ) × List (Option ℕ)))). HoldsLog z.0 z.1.0 z.1.1.0 z.1.1.1 (place ∷ inv.order) (a.clock + 1))
          (λ j. (sym c.enter.ensures.arena j, (sym c.enter.ensures.ops j, (sym c.enter.ensures.tuples j, sym c.enter.ensures.sessions j)))) (holds_added a.arena a.heads.ops.items a.heads.tuples.items a.heads.sessions.items inv.order a.clock a.room (a.room - 1) place c.back_for-back.result change inv.holds got.1.0 got.0);
      free = subst (AreFree c.claim-place.new.free.items c.claim-place.new.used) (sym c.enter.ensures.arena) (got.1.1.1 (node_for a.heads.ops.items a.heads.tuples.items a.heads.sessions.items a.clock c.back_for-back.result change));
      counted = (let n = got.1.1.0 in omega (arith, inv.counted));
      roomy = omega (arith, inv.roomy, c.claim-place.ensures.capacity);
      spare = (let n = got.1.1.0 in omega (arith, inv.spare, c.requires.spare, ap (λ (v : Raw). v.room) c.self.view_is));
    }

pub returns-clause-records : goal.returns-clause-records
returns-clause-records c = let a = c.self.inside in let inv = c.self.invariant in let change = c.args.change in let place = c.claim-place.result in
    let more : length a.free.items ≡ 0 → a.used < length a.arena = λ e. let room = ap (λ (v : Raw). v.room) c.self.view_is in omega (arith, inv.spare, c.requires.spare) in
    let got = claimed a.free.items c.claim-place.new.free.items a.used c.claim-place.new.used place a.arena inv.free c.claim-place.ensures.place more in
    ap (λ l. records_of (record { places = shown l; clock = a.clock + 1; room = a.room - 1 })) c.enter.ensures.arena ∙ records_added a.arena a.heads.ops.items a.heads.tuples.items a.heads.sessions.items inv.order a.clock a.room (a.room - 1) place c.back_for-back.result change inv.holds got.1.0 got.0 ∙ (λ j. records_of (c.self.view_is j) ++ ((c.self.view_is j).clock, change) ∷ [])

pub returns-clause-spots : goal.returns-clause-spots
returns-clause-spots c = let a = c.self.inside in let inv = c.self.invariant in let change = c.args.change in let place = c.claim-place.result in
    let more : length a.free.items ≡ 0 → a.used < length a.arena = λ e. let room = ap (λ (v : Raw). v.room) c.self.view_is in omega (arith, inv.spare, c.requires.spare) in
    let got = claimed a.free.items c.claim-place.new.free.items a.used c.claim-place.new.used place a.arena inv.free c.claim-place.ensures.place more in
    subst (λ (z : Raw × List (Option (Node Change))). let v : Raw = record { places = shown z.1; clock = a.clock + 1; room = a.room - 1 } in SpotsStay (Stands z.0) (Stands v) (records_of v)) (λ j. (c.self.view_is j, sym c.enter.ensures.arena j)) (added_spots a.arena a.heads.ops.items a.heads.tuples.items a.heads.sessions.items inv.order a.clock a.room (a.room - 1) place c.back_for-back.result change inv.holds got.1.0 got.0)

pub returns-clause-own : goal.returns-clause-own
returns-clause-own c = ap (changes_by (author c.args.change)) (returns-clause-records c) ∙ own_pushed (records_of c.args.self.now) c.args.self.now.clock c.args.change

pub returns-clause-others : goal.returns-clause-others
returns-clause-others c =
    subst (λ (l : List Record). OthersStay (author c.args.change) (records_of c.args.self.now) l) (sym (returns-clause-records c)) (others_pushed (records_of c.args.self.now) c.args.self.now.clock c.args.change)

pub back_for-back-requires : goal.back_for-back-requires
back_for-back-requires c = (c.self.invariant.order, (c.self.inside.clock, c.self.invariant.holds))
