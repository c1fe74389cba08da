use Rattle.std.proofs.Common.{◌∙◌, ap, sym, rules}
use Rattle.std.proofs.lemmas.Bool.{le-ltb}
use Rattle.std.proofs.lemmas.List.Sorted.{IsPartitionPoint-from_clause}
use Rattle.sb_syntax.specs.declared.tree.Comparison.TheVariants.{Equal}
use Rattle.sb_plan.specs.Meaning.{compared}
use Rattle.sb_plan.specs.Scopes.{value_seen}
use Rattle.sb_plan.proofs.Searching.{all-before, comes_before, first-decides, parted}
use Rattle.sb_plan.proofs.value_set.is_found.Goals as goal

pub returns-then-place-list : goal.returns-then-place-list
returns-then-place-list c =
    let w = value_seen c.args.wanted in
    let vs = c.args.list.now in
    let part = IsPartitionPoint-from_clause (comes_before w) _ _ c.partition_point-place.ensures.partitioned (parted w vs c.requires) (λ a r q k. search rules) in
    c.compares.ensures
    ∙ ap (λ v. compared Equal w (value_seen v)) c.index-list-place.is
    ∙ first-decides w vs c.partition_point-place.result c.index-list-place.result c.requires part c.if-place-list.true

pub returns-else-place-list : goal.returns-else-place-list
returns-else-place-list c =
    let w = value_seen c.args.wanted in
    let vs = c.args.list.now in
    let part = IsPartitionPoint-from_clause (comes_before w) _ _ c.partition_point-place.ensures.partitioned (parted w vs c.requires) (λ a r q k. search rules) in
    le-ltb _ _ c.if-place-list.false ∙ sym (all-before w vs c.partition_point-place.result part c.if-place-list.false)
