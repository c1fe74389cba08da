use Rattle.std.proofs.Common.{◌≡◌, ◌∙◌, get_or, ap, arith}
use Rattle.std.proofs.lemmas.List.{get_or_read, length-map}
use Rattle.sb_value.specs.Flags.{flag_at}
use Rattle.sb_priority.specs.Closed.{relates}
use Rattle.sb_priority.specs.Rows.{direct_of, before_of, no_row}
use Rattle.sb_priority.specs.declared.rows.PrecedenceRow.{PrecedenceRow}
use Rattle.sb_priority.proofs.RowLaws.{none_taken, taken_next, all_taken}
use Rattle.sb_priority.proofs.Kept.{direct_at, before_at, closed_same}
use Rattle.sb_priority.proofs.rows.spread.Goals as goal

pub loop-number-init : goal.loop-number-init
loop-number-init c = record {
  direct = λ a b. none_taken 256 c.empty-direct.result a b (c.empty-direct.ensures.members a) _;
  before = λ a b. none_taken 256 c.empty-before.result a b (c.empty-before.ensures.members a) _;
}

pub loop-number-preserved : goal.loop-number-preserved
loop-number-preserved c =
    let rows = c.args.rows.now in
    let i = c.loop-number.number in
    let read : c.index-rows-number.result ≡ get_or rows i no_row = get_or_read rows i c.index-rows-number.result (omega arith) c.index-rows-number.is no_row in
    record {
      direct = taken_next (direct_of rows) c.loop-number.direct i c.index-rows-number.result.direct (omega arith) c.loop-number.invariant.direct
          (λ a. ap (λ (row : PrecedenceRow). flag_at row.direct a) read ∙ direct_at rows a i);
      before = taken_next (before_of rows) c.loop-number.before i c.index-rows-number.result.before (omega arith) c.loop-number.invariant.before
          (λ a. ap (λ (row : PrecedenceRow). flag_at row.before a) read ∙ before_at rows a i);
    }

pub of-requires-2 : goal.of-requires-2
of-requires-2 c =
    let rows = c.args.rows.now in
    let n = c.loop-number.number in
    closed_same (direct_of rows) (before_of rows) c.loop-number.direct c.of.result c.requires.1
    (λ a b. c.loop-number.invariant.direct a b ∙ all_taken (direct_of rows) n a b (omega (arith, length-map rows (λ (row : PrecedenceRow). row.direct))))
    (λ a b. (λ j. relates (c.of.ensures j) a b) ∙ c.loop-number.invariant.before a b ∙ all_taken (before_of rows) n a b (omega (arith, length-map rows (λ (row : PrecedenceRow). row.before))))

pub returns : goal.returns
returns c a b =
    let rows = c.args.rows.now in
    (λ j. relates (c.of-2.ensures j) a b) ∙ c.loop-number.invariant.direct a b ∙ all_taken (direct_of rows) c.loop-number.number a b (omega (arith, length-map rows (λ (row : PrecedenceRow). row.direct)))
