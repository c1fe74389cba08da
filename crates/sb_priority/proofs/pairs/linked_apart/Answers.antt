use Rattle.std.proofs.Common.{◌≡◌, ◌≤◌, ◌∙◌, arith, length, [], get_or, not, ◌&&◌, ◌||◌, ◌==◌}
use Rattle.std.proofs.lemmas.List.{get_or_read}
use Rattle.sb_value.specs.Flags.{flag_at}
use Rattle.sb_priority.specs.Closed.{relates}
use Rattle.sb_priority.specs.Ranks.{is_between}
use Rattle.sb_priority.proofs.RowLaws.{kept_more, all_rows}
use Rattle.sb_priority.proofs.pairs.linked_apart.Goals as goal

pub loop-number-preserved : goal.loop-number-preserved
loop-number-preserved c =
    let read : c.index-rows-number.result ≡ get_or c.args.rows.now c.loop-number.number [] = get_or_read c.args.rows.now c.loop-number.number c.index-rows-number.result (omega arith) c.index-rows-number.is [] in
    kept_more c.args.rows.now (relates c.loop-number.kept) (relates c.link_row.new.self) (λ a b. not (is_between c.args.rule c.args.others.now a b)) c.row_apart.result c.loop-number.number c.loop-number.invariant
    (λ a. c.row_apart.ensures a ∙ (λ j. flag_at (read j) a && not (is_between c.args.rule c.args.others.now a (c.new-second.ensures j))))
    (λ a b. c.link_row.ensures a b ∙ (λ j. relates c.loop-number.kept a b || (flag_at c.row_apart.result a && (c.new-second.ensures j == b))))

pub returns : goal.returns
returns c a b =
    let all : length c.args.rows.now ≤ c.loop-number.number = omega arith in
    c.loop-number.invariant a b ∙ all_rows c.args.rows.now c.loop-number.number a b (not (is_between c.args.rule c.args.others.now a b)) all
