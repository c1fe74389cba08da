use Rattle.clap.specs.Words.{rows_of, found_of}
use Rattle.sb_words.proofs.Fitting.{here_given, next_given, none_here, split_at}
use Rattle.sb_words.proofs.fit.first_given.Goals as goal

pub returns-in-Some : goal.returns-in-Some
returns-in-Some c =
    let ps = c.args.parts.now in
    let k = c.loop-part.part-index in
    c.loop-part.invariant.first c.in-Some.given (here_given (rows_of (found_of c.args.matches.now)) ps k _ (split_at ps k _ c.loop-part-test.true) c.in-Some.given c.in-Some.ensures)

pub loop-part-preserved : goal.loop-part-preserved
loop-part-preserved c =
    let rows = rows_of (found_of c.args.matches.now) in
    let ps = c.args.parts.now in
    let k = c.loop-part.part-index in
    record {
      none = λ rest. c.loop-part.invariant.none (none_here rows ps k _ (split_at ps k _ c.loop-part-test.true) c.in-None.ensures rest);
      first = λ u rest. c.loop-part.invariant.first u (next_given rows ps k _ (split_at ps k _ c.loop-part-test.true) u c.in-None.ensures rest);
    }
