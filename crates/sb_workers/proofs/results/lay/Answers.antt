use Rattle.std.proofs.Common.{◌∙◌, List, length, sym, ap, vec_len, arith}
use Rattle.std.specs.Vec.Iter.{into_iter_items}
use Rattle.sb_workers.specs.declared.work.Placed.{Placed}
use Rattle.sb_workers.proofs.Laying.{laying_ends, laying_goes_on, laying_within}
use Rattle.sb_workers.proofs.results.lay.Goals as goal

pub put-requires : goal.put-requires
put-requires g c =
    let i = c.loop-placed.invariant in
    let within = laying_within (vec_len c.args.slots) c.args.done.items (into_iter_items c.loop-placed.placed-iterator) (into_iter_items c.next.new.self) c.in-Some.placed c.loop-placed.slots.items c.in-Some.ensures.steps.0 i.laying c.requires.covered in
    omega (arith, within, i.slots)

pub loop-placed-preserved : goal.loop-placed-preserved
loop-placed-preserved g c =
    let i = c.loop-placed.invariant in
    let s = c.in-Some.ensures.steps in
    let long = ap (λ (l : List (Placed _)). length l) s.0 in
    record {
      laying = laying_goes_on c.args.done.items (into_iter_items c.loop-placed.placed-iterator) (into_iter_items c.next.new.self) c.in-Some.placed c.loop-placed.slots.items c.put.new.slots.items s.0 c.put.ensures.put i.laying;
      slots = c.put.ensures.len ∙ i.slots;
      len = omega (arith, s.1, i.len, long);
    }

pub returns-clause-held : goal.returns-clause-held
returns-clause-held g c =
    let i = c.loop-placed.invariant in
    laying_ends (vec_len c.args.slots) c.args.done.items (into_iter_items c.loop-placed.placed-iterator) c.loop-placed.slots.items (sym i.len ∙ c.in-None.ensures.steps.0) i.laying c.requires.covered (sym c.loop-placed.slots.ok.0 ∙ i.slots)
