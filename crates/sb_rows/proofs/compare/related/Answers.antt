use Rattle.std.proofs.Common.{rules, ap, ◌∙◌, replicate, FitsSigned, w64}
use Rattle.std.proofs.lemmas.Int.{to_z-of_z}
use Rattle.sb_rows.proofs.ByRows.{same_same, same_each, each_same, each_each}
use Rattle.sb_rows.proofs.compare.related.Goals as goal

pub returns-in-Same-two : goal.returns-in-Same-two
returns-in-Same-two g c =
    let first : FitsSigned w64 c.in-Same.x = search rules in
    let second : FitsSigned w64 c.in-Same-two.y = search rules in
    same_same g.R.Relation.holds _ _ _ _ _ _ c.in-Same.is c.in-Same-two.is
    (c.all_or_none.ensures ∙ ap (replicate c.args.count) (rw (to_z-of_z w64 _ first, to_z-of_z w64 _ second) at c.test.ensures))

pub returns-in-Each-two : goal.returns-in-Each-two
returns-in-Each-two g c =
    same_each g.R.Relation.holds g.T.Relation.holds _ _ _ _ _ _ c.in-Same.is c.in-Each-two.is c.requires.second c.requires.turned c.select_to_same.ensures

pub returns-in-Same-two-2 : goal.returns-in-Same-two-2
returns-in-Same-two-2 g c =
    each_same g.R.Relation.holds _ _ _ _ _ _ c.in-Each.is c.in-Same-two-2.is c.requires.first c.select_to_same-in-Same-two-2.ensures

pub returns-in-Each-two-2 : goal.returns-in-Each-two-2
returns-in-Each-two-2 g c =
    each_each g.R.Relation.holds _ _ _ _ _ _ c.in-Each.is c.in-Each-two-2.is c.requires.first c.requires.second c.select_to_each.ensures
