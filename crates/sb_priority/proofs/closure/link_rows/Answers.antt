use Rattle.std.proofs.Common.{◌≡◌, ◌∙◌, arith, [], get_or, ◌&&◌, ◌||◌, ◌==◌}
use Rattle.std.proofs.lemmas.List.{get_or_read}
use Rattle.sb_value.specs.Flags.{flag_at}
use Rattle.sb_priority.specs.Closed.{relates}
use Rattle.sb_priority.proofs.RowLaws.{next_done, next_kept, all_linked}
use Rattle.sb_priority.proofs.closure.link_rows.Goals as goal

pub loop-number-preserved : goal.loop-number-preserved
loop-number-preserved c =
    let old = c.args.rows.now in
    let i = c.loop-number.number in
    let read : c.index-rows-number.result ≡ get_or old i [] = get_or_read c.loop-number.rows i c.index-rows-number.result (omega arith) c.index-rows-number.is [] ∙ c.loop-number.invariant.kept i (omega arith) in
    record {
      linked = next_done (λ a b. relates old a b || (flag_at c.args.through a && ((c.args.second == b) || relates old c.args.second b))) c.loop-number.rows i c.linked.result (omega arith) c.loop-number.invariant.linked
          (λ a. c.linked.ensures a ∙ (λ j. flag_at (read j) a || (flag_at c.args.through a && ((c.args.second == i) || flag_at (read j) c.args.second))));
      kept = next_kept old c.loop-number.rows i c.linked.result c.loop-number.invariant.kept;
    }

pub returns : goal.returns
returns c =
    all_linked c.args.rows.now c.loop-number.rows c.args.through c.loop-number.number c.args.second (omega arith) (omega (arith, c.number-in_range.ensures.value, c.number-in_range.ensures.in_range))
    c.loop-number.invariant.linked c.loop-number.invariant.kept
