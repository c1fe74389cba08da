use Rattle.std.proofs.Common.{map, rules, sym, ap, subst, ◌∙◌, arith}
use Rattle.std.proofs.lemmas.List.Sorted.{IsPartitionPoint-from_clause}
use Rattle.sb_rows.specs.Codes.{InOrder, precedes}
use Rattle.sb_rows.proofs.CodeLaws.{count_at, parted}
use Rattle.sb_rows.proofs.codes.Codes.code.Goals as goal

pub returns-clause-count : goal.returns-clause-count
returns-clause-count c =
    let text = c.args.text.now in let point = c.partition_point.ensures in
    let parts = IsPartitionPoint-from_clause (λ other. precedes other.now text) _ _ point.partitioned (parted text _ (subst InOrder (sym c.deref.ensures.value) c.self.invariant)) (λ a r q k. search rules) in
    count_at (λ other. precedes other text) c.deref.result.now _ _ (ap (map (λ t. t.now)) c.deref.ensures.value ∙ c.self.view_is) point.bound (omega (arith, point.bound, c.deref.ensures.len)) parts
