use Rattle.std.proofs.Common.{Some, None, replicate, ap, ◌∙◌, length}
use Rattle.std.proofs.lemmas.List.{length-replicate}
use Rattle.sb_arena.specs.Places.{somes}
use Rattle.sb_arena.proofs.Fulls.{full_map, somes-map, map-replicate}
use Rattle.sb_arena.proofs.block.Block.new.Goals as goal

pub invariant_of-result : goal.invariant_of-result
invariant_of-result g c = let made = c.in_ok-start.ensures in let slots = c.fill.ensures.1 in record {
  parts = (c.fill.ensures.0 ∙ made.cells.0, made.deed.0, made.deed.1, made.deed.2);
  count = ap length slots ∙ length-replicate c.args.places (Some None);
  full = full_map _ _ (slots ∙ map-replicate c.args.places None);
}

pub returns : goal.returns
returns g c = ap somes (c.fill.ensures.1 ∙ map-replicate c.args.places None) ∙ somes-map (replicate c.args.places None)
