-- Promise: which tenants a server renews by itself.
use Rattle.std.specs.Prelude.{Bool, true, false, [], ◌∷◌, Option, codes}
use Rattle.clap.specs.Words.{Text}
use Rattle.sb_words.specs.Meanings.{meaning_of}
use Rattle.sb_words.specs.declared.renew_policy.RenewPolicy.{RenewPolicy}
use Rattle.sb_words.specs.declared.renew_policy.RenewPolicy.TheVariants.{Auto, Never}

-- by the word on the command line
abbrev pub renew_policy_of : Text → Option RenewPolicy
renew_policy_of word = meaning_of word ((codes "auto", Auto) ∷ (codes "never", Never) ∷ [])

-- where no word is given: those that are nearly full where there is a journal, and none elsewhere
abbrev pub usual_policy : Bool → RenewPolicy
usual_policy true = Auto
usual_policy false = Never
