use Rattle.std.proofs.Common.{None, arith, sym, ◌∙◌, ap, length, length-set, set}
use Rattle.sb_arena.specs.Places.{somes}
use Rattle.sb_arena.proofs.Fulls.{filled_in, length-somes, replaced, full_map, somes-map}
use Rattle.sb_arena.proofs.Rows.{filled_within}
use Rattle.sb_arena.proofs.block.Block.take.Goals as goal

pub read-requires : goal.read-requires
read-requires g c = let b = c.self.inside in let inv = c.self.invariant in
    (sym inv.parts.0, filled_in b.cells.slots c.args.place inv.full (omega (arith, length-somes b.cells.slots inv.full, filled_within c.args.self.now c.args.place c.requires.0 c.requires.1, ap length c.self.view_is)))

pub invariant_of-self : goal.invariant_of-self
invariant_of-self g c = let b = c.self.inside in let inv = c.self.invariant in
    let is = replaced b.cells.slots c.read.new.self.slots c.write.new.self.slots c.args.place None inv.full c.read.ensures.slots.1 c.write.ensures.1 in
    record {
      parts = (c.write.ensures.0 ∙ c.read.ensures.slots.0 ∙ inv.parts.0, inv.parts.1, inv.parts.2, inv.parts.3);
      count = ap length c.write.ensures.1 ∙ length-set _ _ _ ∙ ap length c.read.ensures.slots.1 ∙ length-set _ _ _ ∙ inv.count;
      full = full_map c.write.new.self.slots _ is;
    }

pub returns-clause-places : goal.returns-clause-places
returns-clause-places g c = let b = c.self.inside in let inv = c.self.invariant in
    let is = replaced b.cells.slots c.read.new.self.slots c.write.new.self.slots c.args.place None inv.full c.read.ensures.slots.1 c.write.ensures.1 in
    ap somes is ∙ somes-map _ ∙ ap (λ l. set l c.args.place None) c.self.view_is
