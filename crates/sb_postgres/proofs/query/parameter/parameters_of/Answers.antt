use Rattle.std.proofs.Common.{ℕ, ◌+◌, drop, Ok, ap, sym, ◌∙◌, arith}
use Rattle.sb_postgres.specs.Scan.{pieces}
use Rattle.sb_postgres.specs.Templates.{higher, highest}
use Rattle.sb_postgres.proofs.Counted.{counts_on, counts_none, counts_fault, counts_all}
use Rattle.sb_postgres.proofs.Turns.{here}
use Rattle.sb_postgres.proofs.query.parameter.parameters_of.Goals as goal

pub returns-in-Err : goal.returns-in-Err
returns-in-Err c = counts_fault c.args.line.now c.loop-at.at c.loop-at.most c.in-Err.fault c.loop-at-test.true (sym c.in-Err.ensures.value) c.loop-at.invariant.so_far

pub returns-in-Err-number_at : goal.returns-in-Err-number_at
returns-in-Err-number_at c =
    let line = c.args.line.now in
    let at = c.loop-at.at in
    let found = c.in-Ok.found in
    let h = here line at found.0 found.1 c.loop-at-test.true c.in-Ok.ensures.within.0 (sym c.in-Ok.ensures.value) in
    counts_none line _ at found.0 found.1 c.loop-at.most c.in-Err-number_at.error h (sym c.in-Err-number_at.ensures) c.loop-at.invariant.so_far

pub loop-at-preserved : goal.loop-at-preserved
loop-at-preserved c =
    let line = c.args.line.now in
    let at = c.loop-at.at in
    let found = c.in-Ok.found in
    let h = here line at found.0 found.1 c.loop-at-test.true c.in-Ok.ensures.within.0 (sym c.in-Ok.ensures.value) in
    let more = highest (pieces 0 (at + found.1) (drop (at + found.1) line)) in
    record {
      so_far = ap (λ (n : ℕ). higher (Ok n) more) c.higher-most.ensures ∙ counts_on line _ at found.0 found.1 c.loop-at.most c.in-Ok-number_at.number _ h (sym c.in-Ok-number_at.ensures) c.loop-at.invariant.so_far;
      within = omega (arith, c.in-Ok.ensures.within.1);
    }

pub returns : goal.returns
returns c = counts_all c.args.line.now c.loop-at.at c.loop-at.most c.loop-at-test.false c.loop-at.invariant.so_far
