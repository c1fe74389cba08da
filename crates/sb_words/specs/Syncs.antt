-- Promise: when what a journal has is brought to the disk.
use Rattle.std.specs.Prelude.{[], ◌∷◌, Option, codes}
use Rattle.clap.specs.Words.{Text}
use Rattle.sb_words.specs.Meanings.{meaning_of}
use Rattle.sb_words.specs.declared.syncs.Syncs.{Syncs}
use Rattle.sb_words.specs.declared.syncs.Syncs.TheVariants.{Always, Second, Never}

-- by the word on the command line
abbrev pub syncs_of : Text → Option Syncs
syncs_of word = meaning_of word ((codes "always", Always) ∷ (codes "second", Second) ∷ (codes "never", Never) ∷ [])
