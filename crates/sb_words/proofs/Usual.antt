-- What no words ask for.
use Rattle.std.proofs.Common.{◌≡◌, ◌≤◌, Bool, true, ◌&&◌, List, [], ◌∷◌, length, Option, Some, None, is_none, ap, sym, refl, arith}
use Rattle.std.proofs.lemmas.Bool.{false≢true}
use Rattle.clap.proofs.OnLiterals.{clap_on_literals}
use Rattle.clap.specs.Words.{Row, Text, matches_of}
use Rattle.sb_words.specs.Asking.{AllFit, text_at}
use Rattle.sb_words.specs.Arguments.{parts}
use Rattle.sb_words.specs.Words.{AskFor, starhost}
use Rattle.sb_words.specs.declared.argument.Argument.{Argument}
use Rattle.sb_words.specs.declared.argument.Verb.TheVariants as verb
use Rattle.sb_words.specs.Requests.{fresh, run}
use Rattle.sb_words.proofs.Fitting.{all_allowed, both}

-- none of these parts is given
abbrev none_given : List Row → List Argument → Bool
none_given rows [] = true
none_given rows (p ∷ ps) = is_none (text_at rows p) && none_given rows ps

ungiven : {X : Type 0} (text : Option Text) (t : Text) → is_none text ≡ true → (text ≡ Some t) × X → ⊥
ungiven None t none (is, x) = absurd (false≢true (ap is_none (sym is)))
ungiven (Some s) t none (is, x) = absurd (false≢true none)

all_fit : (rows : List Row) (ps : List Argument) → none_given rows ps ≡ true → AllFit rows ps
all_fit rows [] none = tt
all_fit rows (p ∷ ps) none = let each = both (is_none (text_at rows p)) (none_given rows ps) none in
    (λ text unfit. ungiven (text_at rows p) text each.0 unfit, all_fit rows ps each.1)

pub no_word : (words : List Text) → length words ≤ 1 → AskFor words (run (record { tenants = 16; bound = 1000; work = None }) fresh)
unfolding clap_on_literals
no_word [] few = let rows = matches_of starhost [] in
    (refl, (verb.Run, rows, (tt, refl), (all_allowed rows (all_fit rows parts refl), refl)))
no_word (w ∷ []) few = let rows = matches_of starhost (w ∷ []) in
    (refl, (verb.Run, rows, (tt, refl), (all_allowed rows (all_fit rows parts refl), refl)))
no_word (w ∷ v ∷ rest) few = absurd (omega arith)
