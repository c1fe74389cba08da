-- Promise: what is done with a journal, without a server.
use Rattle.std.specs.Prelude.{[], ◌∷◌, Option, codes}
use Rattle.clap.specs.Words.{Text}
use Rattle.sb_words.specs.Meanings.{meaning_of}
use Rattle.sb_words.specs.declared.journal_action.JournalAction.{JournalAction}
use Rattle.sb_words.specs.declared.journal_action.JournalAction.TheVariants.{Check}

-- by the word on the command line
abbrev pub journal_action_of : Text → Option JournalAction
journal_action_of word = meaning_of word ((codes "check", Check) ∷ [])
