use Rattle.std.proofs.Common.{◌∙◌, ◌≤◌, ◌++◌, ◌∷◌, List, Option, Some, map, length, sym, ap, subst, vec_len, vec_capacity, arith}
use Rattle.std.specs.Vec.Iter.{into_iter_items}
use Rattle.sb_workers.proofs.Laying.{has_room, no_gap, one_more}
use Rattle.sb_workers.proofs.results.in_a_row.Goals as goal

pub push_reserved-requires : goal.push_reserved-requires
push_reserved-requires g c =
    let i = c.loop-slot.invariant in
    let left = into_iter_items c.next.new.self in
    let is = ap (λ (s : Option _). map Some c.loop-slot.results.items ++ s ∷ left) (sym c.in-Some-slot.is) ∙ (ap (λ (l : List (Option _)). map Some c.loop-slot.results.items ++ l) (sym c.in-Some.ensures.steps.0) ∙ i.row) in
    let most : length c.args.slots.items ≤ vec_capacity c.loop-slot.results = (let same = c.args.slots.ok.0 in let room = i.room in omega arith) in
    let free = has_room c.loop-slot.results.items c.in-Some-slot.found left c.args.slots.items (vec_capacity c.loop-slot.results) is most in
    let len = c.loop-slot.results.ok.0 in
    omega arith

pub unreachable-requires : goal.unreachable-requires
unreachable-requires g c =
    let i = c.loop-slot.invariant in
    let left = into_iter_items c.next.new.self in
    let is = ap (λ (s : Option _). map Some c.loop-slot.results.items ++ s ∷ left) (sym c.in-None-slot.is) ∙ (ap (λ (l : List (Option _)). map Some c.loop-slot.results.items ++ l) (sym c.in-Some.ensures.steps.0) ∙ i.row) in
    no_gap c.loop-slot.results.items left c.args.slots.items is c.requires.full

pub loop-slot-preserved : goal.loop-slot-preserved
loop-slot-preserved g c =
    let i = c.loop-slot.invariant in
    let left = into_iter_items c.next.new.self in
    let split = c.in-Some.ensures.steps.0 in
    let long = ap (λ (l : List (Option _)). length l) split in
    let is = ap (λ (s : Option _). map Some c.loop-slot.results.items ++ s ∷ left) (sym c.in-Some-slot.is) ∙ (ap (λ (l : List (Option _)). map Some c.loop-slot.results.items ++ l) (sym split) ∙ i.row) in
    record {
      row = ap (λ (l : List _). map Some l ++ left) c.push_reserved.ensures.items ∙ one_more c.loop-slot.results.items c.in-Some-slot.found left c.args.slots.items is;
      len = omega (arith, c.in-Some.ensures.steps.1, i.len, long);
      room = subst (λ n. vec_len c.args.slots ≤ n) (sym c.push_reserved.ensures.capacity) i.room;
    }
