use Rattle.std.proofs.Common.{◌∙◌, ap}
use Rattle.clap.specs.Matches.{first_value}
use Rattle.clap.specs.Words.{found_of}
use Rattle.sb_words.specs.Asking.{text_by}
use Rattle.sb_words.specs.Arguments.{name_of}
use Rattle.sb_words.proofs.Found.{first_in_rows}
use Rattle.sb_words.proofs.given.text_at.Goals as goal

pub returns : goal.returns
returns c =
    let found = found_of c.args.matches.now in
    c.text_by.ensures ∙ ap (text_by c.args.part) (c.get_str.ensures ∙ ap (first_value found) c.name.ensures ∙ first_in_rows found (name_of c.args.part))
