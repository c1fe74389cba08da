use Rattle.std.proofs.Common.{sym}
use Rattle.clap.specs.Words.{found_of, rows_of, subcommand_rows_of}
use Rattle.sb_words.proofs.Fitting.{command_asked, none_of, pair_of, run_asked}
use Rattle.sb_words.proofs.words.asked_in.Goals as goal

pub returns-in_default-clause-asked : goal.returns-in_default-clause-asked
returns-in_default-clause-asked c =
    run_asked (rows_of (found_of c.args.matches.now)) (subcommand_rows_of c.args.matches.now) c.asked_by.result (none_of _ _ c.in_default.ensures.variant) c.asked_by.ensures.asked

pub returns-clause-asked : goal.returns-clause-asked
returns-clause-asked c =
    command_asked (rows_of (found_of c.args.matches.now)) c.in-Some.word.now (rows_of (found_of c.in-Some.behind.now)) c.in-Some-meaning_of.verb
    c.in_default-first_given.ensures (sym c.in-Some-meaning_of.ensures) (subcommand_rows_of c.args.matches.now) c.asked_by-in-Some-meaning_of.result
    (pair_of _ _ _ _ _ c.in-Some.ensures.name c.in-Some.ensures.rows) c.asked_by-in-Some-meaning_of.ensures.asked
