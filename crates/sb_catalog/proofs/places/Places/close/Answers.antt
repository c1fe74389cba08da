use Rattle.std.proofs.Common.{◌∙◌, ◌<◌, ℕ, length, arith, ap, set, get_or, length-append, length-take, length-drop}
use Rattle.std.proofs.lemmas.List.{get_or_default, length-map}
use Rattle.std.proofs.lemmas.List.Edits.{map_over_more}
use Rattle.sb_catalog.specs.Places.{closed}
use Rattle.sb_catalog.proofs.places.Places.close.Goals as goal

-- one more place is moved up, if it is behind the gap
pub loop-place-preserved : goal.loop-place-preserved
loop-place-preserved c =
    let old : ℕ = get_or c.loop-place.place-items c.loop-place.place-index 0 in
    let within : c.loop-place.place-index < length c.self.inside.places = omega arith in
    let held : c.loop-place.place-index < length c.loop-place.place-items =
    rw c.loop-place.invariant (simp (length-append, length-map, length-take, length-drop) (omega arith)) in
    ap (λ (p : ℕ). set c.loop-place.place-items c.loop-place.place-index p) c.moved_up.ensures
    ∙ map_over_more (closed c.args.gap) c.self.inside.places c.loop-place.place-items c.loop-place.place-index old within c.loop-place.invariant
    (get_or_default c.loop-place.place-items c.loop-place.place-index 0 old held)
