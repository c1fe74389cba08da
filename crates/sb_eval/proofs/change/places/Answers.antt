use Rattle.std.proofs.Common.{◌≡◌, ◌∙◌, sym, ap, arith, ◌+◌, ◌++◌, ◌∷◌, [], map, take}
use Rattle.std.proofs.lemmas.List.{map-append, take_more}
use Rattle.sb_value.specs.Columns.{set_of, with_place}
use Rattle.sb_check.specs.declared.tree.Assignment.{Assignment}
use Rattle.sb_eval.proofs.change.places.Goals as goal

-- the place of one assignment more
pub loop-assignment-preserved : goal.loop-assignment-preserved
loop-assignment-preserved c =
    let list = c.args.assignments.now in
    let i = c.loop-assignment.assignment-index in
    let a = c.assignment-item.result in
    let longer : take (i + 1) list ≡ take i list ++ a ∷ [] = take_more list i a (omega arith) ∙ ap (λ x. take i list ++ x ∷ []) (sym c.assignment-item.is) in
    c.with_place-columns.ensures
    ∙ ap (λ set. with_place set a.place) c.loop-assignment.invariant
    ∙ c.sets_take_places.ensures (map (λ (x : Assignment). x.place) (take i list)) a.place
    ∙ ap set_of (sym (map-append (λ (x : Assignment). x.place) (take i list) (a ∷ [])))
    ∙ ap (λ l. set_of (map (λ (x : Assignment). x.place) l)) (sym longer)
