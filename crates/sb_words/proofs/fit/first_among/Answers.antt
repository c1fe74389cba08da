use Rattle.clap.specs.Words.{rows_of, found_of}
use Rattle.sb_words.proofs.Fitting.{here_first, next_first, next_fits, split_at}
use Rattle.sb_words.proofs.fit.first_among.Goals as goal

pub returns-in-Some : goal.returns-in-Some
returns-in-Some c =
    let ps = c.args.parts.now in
    let k = c.loop-part.part-index in
    c.loop-part.invariant.first c.in-Some.unfit (here_first (rows_of (found_of c.args.matches.now)) ps k _ (split_at ps k _ c.loop-part-test.true) c.in-Some.unfit c.in-Some.ensures)

pub loop-part-preserved : goal.loop-part-preserved
loop-part-preserved c =
    let rows = rows_of (found_of c.args.matches.now) in
    let ps = c.args.parts.now in
    let k = c.loop-part.part-index in
    record {
      none = λ rest. c.loop-part.invariant.none (next_fits rows ps k _ (split_at ps k _ c.loop-part-test.true) c.in-None.ensures rest);
      first = λ u rest. c.loop-part.invariant.first u (next_first rows ps k _ (split_at ps k _ c.loop-part-test.true) u c.in-None.ensures rest);
    }
