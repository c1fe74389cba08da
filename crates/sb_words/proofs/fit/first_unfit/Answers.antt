use Rattle.clap.specs.Words.{rows_of, found_of}
use Rattle.sb_words.proofs.Fitting.{first_of_all}
use Rattle.sb_words.proofs.fit.first_unfit.Goals as goal

pub returns : goal.returns
returns c = first_of_all (rows_of (found_of c.args.matches.now)) c.first_among.result c.first_among.ensures
