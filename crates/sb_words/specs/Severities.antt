-- Promise: how severe it is what the log tells.
use Rattle.std.specs.Prelude.{ℕ, [], ◌∷◌, Option, codes}
use Rattle.clap.specs.Words.{Text}
use Rattle.sb_words.specs.Meanings.{meaning_of}
use Rattle.sb_words.specs.declared.severity.Severity.{Severity}
use Rattle.sb_words.specs.declared.severity.Severity.TheVariants.{Error, Warning, Info}

-- the most severe first
abbrev pub rank : Severity → ℕ
rank Error = 0
rank Warning = 1
rank Info = 2

-- by the word on the command line
abbrev pub severity_of : Text → Option Severity
severity_of word = meaning_of word ((codes "error", Error) ∷ (codes "warning", Warning) ∷ (codes "info", Info) ∷ [])
