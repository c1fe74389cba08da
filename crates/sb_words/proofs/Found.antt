-- What clap finds, by rows, and that its command is the program's.
use Rattle.std.proofs.Common.{◌≡◌, ◌∙◌, Bool, Option, Some, None, Result, refl, sym, ap, subst, true, false, is_some, unwrap_or}
use Rattle.std.proofs.lemmas.Bool.{false≢true}
use Rattle.std.proofs.lemmas.Option.{slice_get-map}
use Rattle.std.specs.List.{find, list_all, slice_get}
use Rattle.std.specs.Prelude.{List, [], ◌∷◌, IfOk, IfSome, IsSome, Ok, Err, option_map, option_and_then, if◌then◌else◌}
use Rattle.std.specs.Str.{bytes_eq}
use Rattle.clap.proofs.OnLiterals.{clap_on_literals}
use Rattle.clap.proofs.WalkLemmas.{find_row}
use Rattle.clap.specs.Facts.{Entry}
use Rattle.clap.specs.Matches.{first_value}
use Rattle.clap.specs.Simple.{argument_words, entered, label_of, names_of, rows_at}
use Rattle.clap.specs.Walk.{answers_to, row_of, stop_after}
use Rattle.clap.specs.Words.{App, FailsBy, HasMatchesOf, Row, Shape, Text, built, fault_of, first_of, found_of, is_simple, is_simple_and_free, matches_of, rows_of, subcommand_of, subcommand_rows_of}
use Rattle.clap.specs.declared.error.Error.{Error}
use Rattle.clap.specs.declared.parser.matches.ArgMatches.{ArgMatches}
use Rattle.clap.specs.declared.parser.matches.Found.{Found}
use Rattle.clap.specs.declared.parser.matches.MatchedArg.{MatchedArg}
use Rattle.sb_words.specs.Arguments.{verb_of}
use Rattle.sb_words.specs.Words.{starhost}
use Rattle.sb_words.proofs.Fitting.{both}

pub first_in_rows : (f : Found) (id : Text) → first_value f id ≡ first_of id (rows_of f)
first_in_rows f id = go (find (λ e. bytes_eq e.0.now id) f.entries.items)
    ∙ ap (λ o. option_and_then (λ (r : Row). slice_get r.values 0) o) (sym (find_row f.entries.items id))
  where
    go : (o : Option Entry) → option_and_then (λ (a : MatchedArg). option_map (λ s. s.now) (slice_get a.vals.items 0)) (option_map (λ e. e.1) o)
        ≡ option_and_then (λ (r : Row). slice_get r.values 0) (option_map row_of o)
    go None = refl
    go (Some e) = sym (slice_get-map (λ s. s.now) e.1.vals.items 0)

is_simple_here : is_simple starhost ≡ true
unfolding clap_on_literals
is_simple_here = refl

is_free_here : is_simple_and_free starhost ≡ true
unfolding clap_on_literals
is_free_here = refl

-- ---- commands

-- each command of clap's has one of our words
abbrev has_word : Shape → Bool
has_word s = is_some (verb_of s.name)

have_words : list_all has_word (built starhost).subs ≡ true
unfolding clap_on_literals
have_words = refl

here_or_behind : (test : Shape → Bool) (x s : Shape) (b : Bool) (o : Option Shape) → test x ≡ true → (o ≡ Some s → test s ≡ true)
    → (if b then Some x else o) ≡ Some s → test s ≡ true
here_or_behind test x s true o passes behind found = subst (λ y. test y ≡ true) (ap (λ o. unwrap_or o x) found) passes
here_or_behind test x s false o passes behind found = behind found

found_passes : (test p : Shape → Bool) (xs : List Shape) (s : Shape) → list_all test xs ≡ true → find p xs ≡ Some s → test s ≡ true
found_passes test p [] s all found = absurd (false≢true (ap is_some found))
found_passes test p (x ∷ xs) s all found =
    let each = both (test x) (list_all test xs) all in
    here_or_behind test x s (p x) (find p xs) each.0 (found_passes test p xs s each.1) found

met_named : (o : Option Shape) (words : List Text) → ((s : Shape) → o ≡ Some s → has_word s ≡ true)
    → IfSome (option_map (λ s. rows_at s words) o) (λ c. IsSome (verb_of c.0))
met_named None words all = tt
met_named (Some s) words all = all s refl

entered_named : (stop : Option (Text × List Text)) → IfSome (entered (built starhost) stop) (λ c. IsSome (verb_of c.0))
entered_named None = tt
entered_named (Some p) = met_named (find (λ s. answers_to p.0 (label_of s)) (built starhost).subs) p.1
    (λ s. found_passes has_word (λ s. answers_to p.0 (label_of s)) (built starhost).subs s have_words)

-- the command that is entered has a word of ours
pub are_named : (words : List Text) → IfSome (subcommand_of starhost words) (λ c. IsSome (verb_of c.0))
are_named words = entered_named (stop_after (built starhost).top.rules (names_of (built starhost)) (argument_words starhost words))

-- clap's command is ours
module _ (a : App) (words : List Text) (ours : a ≡ starhost) where
  pub fails : (r : Result ArgMatches Error) → (is_simple_and_free a ≡ true → FailsBy (fault_of a words) r) → FailsBy (fault_of starhost words) r
  fails r kinds = subst (λ b. FailsBy (fault_of b words) r) ours (kinds (subst (λ b. is_simple_and_free b ≡ true) (sym ours) is_free_here))

  pub finds : (r : Result ArgMatches Error) → IfOk r (HasMatchesOf a words)
      → IfOk r (λ m. (rows_of (found_of m) ≡ matches_of starhost words) × (subcommand_rows_of m ≡ subcommand_of starhost words))
  finds (Err e) has = tt
  finds (Ok m) has = subst (λ b. (rows_of (found_of m) ≡ matches_of b words) × (subcommand_rows_of m ≡ subcommand_of b words)) ours
      (has (subst (λ b. is_simple b ≡ true) (sym ours) is_simple_here))
