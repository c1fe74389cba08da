use Rattle.std.proofs.Common.{◌≡◌, ◌∙◌, ap, ◌||◌, ◌&&◌, List, Bool, [], get_or, arith}
use Rattle.std.proofs.lemmas.List.{get_or_default}
use Rattle.sb_value.specs.Flags.{flag_at}
use Rattle.sb_index.proofs.Columns.{left_more}
use Rattle.sb_index.proofs.table.named.Goals as goal

-- one column less is left
pub loop-place-preserved : goal.loop-place-preserved
loop-place-preserved c r =
    let column : c.index-columns-place.result ≡ get_or c.args.columns.now c.loop-place.place [] =
    c.index-columns-place.is ∙ get_or_default c.args.columns.now c.loop-place.place c.index-columns-place.result [] (omega arith) in
    left_more c.args.columns.now c.args.named c.loop-place.rules c.union_if-rules.result c.contains.result c.loop-place.place (omega arith) c.contains.ensures
    (λ r. c.union_if-rules.ensures r ∙ ap (λ (flags : List Bool). flag_at c.loop-place.rules r || (flag_at flags r && c.contains.result)) column) r
    ∙ c.loop-place.invariant r
